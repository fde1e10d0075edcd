-- An answer as one JSON object. (profile)
use Rattle.std.specs.Prelude.{ℕ, ◌+◌, ◌==◌, List, [], ◌∷◌, ◌++◌, Option, Some, None, codes, if◌then◌else◌}
use Rattle.nvme_arbiter.specs.Settings.{burst_of, weight_of}
use Rattle.nvme_arbiter.specs.declared.settings.Class.{Class}
use Rattle.nvme_arbiter.specs.declared.settings.Class.TheVariants.{High, Medium, Low}
use Rattle.nvme_cells.specs.Rows.{Named, json_members, json_object}
use Rattle.nvme_cells.specs.Values.{Nothing, Text, Value, Whole, fraction_of, whole_of}
use Rattle.nvme_cells.specs.declared.cell.Places.TheVariants.{Four, Five}
use Rattle.nvme_channels.specs.declared.channel.Channel.{Channel}
use Rattle.nvme_channels.specs.declared.placement.Placement.{Placement}
use Rattle.nvme_channels.specs.declared.placement.Placement.TheVariants.{Pool, Striped}
use Rattle.nvme_model.specs.declared.device.Device.{Device}
use Rattle.nvme_model.specs.declared.device.Pauses.{Pauses}
use Rattle.nvme_numbers.specs.Columns.{aboves, column, commands, feeds, latencies, parts, rates}
use Rattle.nvme_numbers.specs.Names.{class_text, mechanism_text}
use Rattle.nvme_numbers.specs.Quotients.{quotient_of}
use Rattle.nvme_numbers.specs.Sheets.{placed, utilization_of}
use Rattle.nvme_numbers.specs.declared.answer.Answer.{Answer}
use Rattle.nvme_numbers.specs.declared.answer.Member.{Member}
use Rattle.nvme_numbers.specs.declared.numbers.Asked.{Asked}
use Rattle.nvme_numbers.specs.declared.row.Row.{Row}

-- the form of the object, which program simulated what, and from when to when, in picoseconds
abbrev pub form : Named
form = column (codes "form") (Whole 1)

abbrev pub sources : Answer → List Named
sources a =
    column (codes "version") (Text a.about.version.now)
    ∷ column (codes "seed") (Whole a.asked.seed)
    ∷ column (codes "digest") (Text a.about.digest.now)
    ∷ column (codes "options") (Text a.about.options.now)
    ∷ []

abbrev pub times : Answer → List Named
times a =
    column (codes "warm_up") (Whole a.asked.warm_up)
    ∷ column (codes "began_ps") (whole_of a.began)
    ∷ column (codes "end_ps") (Whole a.end)
    ∷ []

-- how commands are picked
abbrev pub pickings : Asked → List Named
pickings asked =
    column (codes "mechanism") (Text (mechanism_text asked.mechanism))
    ∷ column (codes "burst") (whole_of (burst_of asked.settings))
    ∷ column (codes "high") (Whole (weight_of asked.settings High))
    ∷ column (codes "medium") (Whole (weight_of asked.settings Medium))
    ∷ column (codes "low") (Whole (weight_of asked.settings Low))
    ∷ []

-- the device: a pool has no stripes
abbrev pub stripe_of : Placement → Value
stripe_of Pool = Nothing
stripe_of (Striped stripe) = Whole stripe.blocks

abbrev pub every_of : Option Pauses → Value
every_of None = Nothing
every_of (Some pauses) = Whole pauses.every

abbrev pub length_of : Option Pauses → Value
length_of None = Nothing
length_of (Some pauses) = Whole pauses.length

abbrev pub channel_count : Device → Named
channel_count d = column (codes "channels") (Whole d.channels)

abbrev pub devices : Device → List Named
devices d =
    column (codes "depth") (Whole d.depth)
    ∷ column (codes "stripe_blocks") (stripe_of d.placement)
    ∷ column (codes "pause_every_ps") (every_of d.pauses)
    ∷ column (codes "pause_length_ps") (length_of d.pauses)
    ∷ []

-- a channel: how long it ran commands, in picoseconds, and for which part of the time
abbrev pub channel_object : Answer → Channel → List ℕ
channel_object a channel =
    json_object (column (codes "busy_ps") (Whole channel.busy)
    ∷ column (codes "utilization") (fraction_of Five (quotient_of channel.busy 100_000 a.end)) ∷ [])

-- what follows the number of commands in a row
abbrev pub numbers : Row → List Named
numbers row = rates row ++ (latencies row.spread ++ (parts row.spread ++ (feeds row.fed ++ aboves row.spread)))

-- a row under its first members
abbrev pub row_object : List Named → Row → List ℕ
row_object firsts row = json_object (firsts ++ (commands row ∷ numbers row))

abbrev pub class_column : Class → Named
class_column class = column (codes "class") (Text (class_text class))

abbrev pub queue_object : (place : ℕ) → Member → List ℕ
queue_object place m = row_object (column (codes "queue") (Whole (place + 1)) ∷ class_column m.class ∷ []) m.row

abbrev pub class_object : Member → List ℕ
class_object m = row_object (class_column m.class ∷ []) m.row

-- a comma before each but the first
abbrev pub comma_before : (place : ℕ) → List ℕ
comma_before place = if place == 0 then [] else codes ","

abbrev pub listed : {A : Type 0} → (ℕ → A → List ℕ) → List A → List ℕ
listed text xs = placed (λ place x. comma_before place ++ text place x) 0 xs

abbrev pub about_text : Answer → List ℕ
about_text a = codes "{" ++ json_members (form ∷ (sources a ++ (times a ++ pickings a.asked)))

abbrev pub device_text : Device → List ℕ
device_text d = codes ",\"device\":" ++ json_object (channel_count d ∷ devices d)

abbrev pub utilization_text : Answer → List ℕ
utilization_text a = codes "," ++ json_members (column (codes "utilization") (fraction_of Five (utilization_of a)) ∷ [])

abbrev pub channels_text : Answer → List ℕ
channels_text a = codes ",\"channels\":[" ++ listed (λ place channel. channel_object a channel) a.channels.now

abbrev pub fairness_text : Answer → List ℕ
fairness_text a =
    codes "]," ++ json_members (column (codes "jain") (fraction_of Four a.jain) ∷ column (codes "jain_by_weight") (fraction_of Four a.jain_by_weight) ∷ [])

abbrev pub queues_text : List Member → List ℕ
queues_text queues = codes ",\"queues\":[" ++ listed queue_object queues

abbrev pub classes_text : List Member → List ℕ
classes_text classes = codes "],\"classes\":[" ++ listed (λ place m. class_object m) classes

abbrev pub all_text : Row → List ℕ
all_text row = codes "],\"all\":" ++ row_object [] row

-- all but the brace and the newline that end it
abbrev pub answer_open_json : Answer → List ℕ
answer_open_json a =
    about_text a ++ (device_text a.asked.device ++ (utilization_text a ++ (channels_text a ++ (fairness_text a
    ++ (queues_text a.queues.items ++ (classes_text a.classes.items ++ all_text a.all))))))

abbrev pub answer_json : Answer → List ℕ
answer_json a = answer_open_json a ++ codes "}\n"
