-- An answer as tables for people. (profile) Times are in microseconds.
use Rattle.std.specs.Prelude.{ℕ, ◌+◌, ◌%◌, ◌==◌, ◌||◌, Bool, false, List, [], ◌∷◌, Option, Some, None, codes, if◌then◌else◌, length, nat_lt}
use Rattle.std.specs.List.{flat_map, list_any}
use Rattle.nvme_arbiter.specs.Settings.{ArbitrationFields, burst_of, weight_of}
use Rattle.nvme_arbiter.specs.declared.settings.Class.TheVariants.{High, Medium, Low}
use Rattle.nvme_arbiter.specs.declared.settings.Mechanism.{Mechanism}
use Rattle.nvme_arbiter.specs.declared.settings.Mechanism.TheVariants.{RoundRobin, Weighted}
use Rattle.nvme_cells.specs.Tables.{Shown, left, plain, right, row_text, words}
use Rattle.nvme_cells.specs.Values.{Nothing, Text, Value, Whole, Fraction, fraction_of, percentage_of, whole_of}
use Rattle.nvme_cells.specs.declared.cell.Places.TheVariants.{Three, Four}
use Rattle.nvme_channels.specs.declared.channel.Channel.{Channel}
use Rattle.nvme_channels.specs.declared.placement.Placement.{Placement}
use Rattle.nvme_channels.specs.declared.placement.Placement.TheVariants.{Pool, Striped}
use Rattle.nvme_model.specs.declared.device.Device.{Device}
use Rattle.nvme_model.specs.declared.device.Pauses.{Pauses}
use Rattle.nvme_numbers.specs.Columns.{measured}
use Rattle.nvme_numbers.specs.Names.{class_text, mechanism_text}
use Rattle.nvme_numbers.specs.Quotients.{quotient_of, rounded}
use Rattle.nvme_numbers.specs.Sheets.{placed, utilization_of}
use Rattle.nvme_numbers.specs.declared.answer.Answer.{Answer}
use Rattle.nvme_numbers.specs.declared.answer.Member.{Member}
use Rattle.nvme_numbers.specs.declared.answer.table.Columns.{Columns}
use Rattle.nvme_numbers.specs.declared.answer.table.Columns.TheVariants.{Rates, Latencies, Parts}
use Rattle.nvme_numbers.specs.declared.answer.table.Section.{Section}
use Rattle.nvme_numbers.specs.declared.answer.table.Section.TheVariants.{Origin, Counts, Machine, Utilization, Channels, Picking, Fairness, Titles, Queues, Classes, All, Few}
use Rattle.nvme_numbers.specs.declared.columns.Measure.{Measure}
use Rattle.nvme_numbers.specs.declared.columns.Measure.TheVariants.{AboveP50, AboveP95, AboveP99, AboveP999}
use Rattle.nvme_numbers.specs.declared.row.Row.{Row}
use Rattle.nvme_numbers.specs.declared.row.Spread.{Spread}

-- a time in picoseconds as microseconds, rounded to the nearest nanosecond
abbrev pub micros : ℕ → Value
micros time = Fraction (rounded time 1_000) Three

abbrev pub plural : ℕ → List ℕ
plural count = if count == 1 then [] else codes "s"

abbrev pub rows_text : List (List Shown) → List ℕ
rows_text rows = flat_map row_text rows

abbrev pub line_end : List Shown
line_end = words (codes "\n") ∷ []

-- a cell that says nothing. Rows whose cells depend on something are filled up with such ones
abbrev pub silent : Shown
silent = words []

-- ---- which program simulated what
abbrev pub origin_row : Answer → List Shown
origin_row a =
    words (codes "nvmearb ") ∷ words a.about.version.now ∷ words (codes ", seed ") ∷ plain (Whole a.asked.seed)
    ∷ words (codes ", digest ") ∷ words a.about.digest.now ∷ words (codes "\n") ∷ []

abbrev pub options_row : (options : List ℕ) → List Shown
options_row options =
    if length options == 0 then silent ∷ silent ∷ silent ∷ []
    else words (codes "in place of what the file says: ") ∷ words options ∷ words (codes "\n") ∷ []

-- how many commands count, and from when on
abbrev pub count_row : (commands : ℕ) → List Shown
count_row commands = plain (Whole commands) ∷ words (codes " command") ∷ words (plural commands) ∷ []

abbrev pub began_row : Option ℕ → List Shown
began_row None = silent ∷ silent ∷ silent ∷ []
began_row (Some began) = words (codes " from ") ∷ plain (micros began) ∷ words (codes " us on") ∷ []

abbrev pub end_row : ℕ → List Shown
end_row end = words (codes ", ") ∷ plain (micros end) ∷ words (codes " us simulated") ∷ []

abbrev pub warm_up_row : ℕ → List Shown
warm_up_row warm_up = if warm_up == 0 then silent ∷ silent ∷ [] else words (codes ", warm-up ") ∷ plain (Whole warm_up) ∷ []

-- ---- the device
abbrev pub device_row : Device → List Shown
device_row d =
    plain (Whole d.channels) ∷ words (codes " channel") ∷ words (plural d.channels) ∷ words (codes ", depth ") ∷ plain (Whole d.depth)
    ∷ words (codes ", ") ∷ []

abbrev pub stripes_row : (blocks : ℕ) → List Shown
stripes_row blocks = words (codes "stripes of ") ∷ plain (Whole blocks) ∷ words (codes " block") ∷ words (plural blocks) ∷ []

abbrev pub placement_row : Placement → List Shown
placement_row Pool = words (codes "pool") ∷ silent ∷ silent ∷ silent ∷ []
placement_row (Striped stripe) = stripes_row stripe.blocks

abbrev pub pauses_row : Option Pauses → List Shown
pauses_row None = silent ∷ silent ∷ silent ∷ silent ∷ silent ∷ []
pauses_row (Some pauses) =
    words (codes ", pauses of ") ∷ plain (micros pauses.length) ∷ words (codes " us every ") ∷ plain (micros pauses.every) ∷ words (codes " us") ∷ []

-- for which part of the time all channels ran commands, and then each of them, of which eight stand on a line
abbrev pub utilization_row : Answer → List Shown
utilization_row a = words (codes "utilization: ") ∷ plain (percentage_of Three (utilization_of a)) ∷ []

abbrev pub channels_row : (number : ℕ) → List Shown
channels_row number =
    if number % 8 == 0 then words (codes "\nchannels from ") ∷ plain (Whole number) ∷ words (codes " on:") ∷ []
    else silent ∷ silent ∷ silent ∷ []

abbrev pub channel_row : Answer → Channel → List Shown
channel_row a channel = words (codes " ") ∷ plain (percentage_of Three (quotient_of channel.busy 100_000 a.end)) ∷ []

abbrev pub channel_text : Answer → (number : ℕ) → Channel → List ℕ
channel_text a number channel = rows_text (channels_row number ∷ channel_row a channel ∷ [])

-- ---- how commands are picked
abbrev pub mechanism_row : Mechanism → List Shown
mechanism_row mechanism = words (mechanism_text mechanism) ∷ []

abbrev pub burst_row : Option ℕ → List Shown
burst_row None = words (codes ", no limit of bursts") ∷ silent ∷ []
burst_row (Some burst) = words (codes ", burst ") ∷ plain (Whole burst) ∷ []

-- weights are told where they are heeded
abbrev pub weights_row : Mechanism → ArbitrationFields → List Shown
weights_row RoundRobin s = silent ∷ silent ∷ silent ∷ silent ∷ silent ∷ silent ∷ []
weights_row Weighted s =
    words (codes ", high ") ∷ plain (Whole (weight_of s High)) ∷ words (codes ", medium ") ∷ plain (Whole (weight_of s Medium))
    ∷ words (codes ", low ") ∷ plain (Whole (weight_of s Low)) ∷ []

-- how fair the queues were served
abbrev pub jain_row : Option ℕ → List Shown
jain_row jain = words (codes "Jain's index of IOPS: ") ∷ plain (fraction_of Four jain) ∷ []

abbrev pub by_weight_row : Mechanism → Option ℕ → List Shown
by_weight_row RoundRobin jain = silent ∷ silent ∷ []
by_weight_row Weighted jain = words (codes "\nJain's index of IOPS by weight: ") ∷ plain (fraction_of Four jain) ∷ []

-- ---- the tables: rates, latencies, and the means of their parts
abbrev pub title_text : Columns → List ℕ
title_text Rates = codes "queue class     commands     share            IOPS    bytes/second\n"
title_text Latencies = codes "latency in us\nqueue class            mean          p50          p95          p99        p99.9          max\n"
title_text Parts = codes "its parts, mean in us\nqueue class            host  arbitration       device      service\n"

abbrev pub timed : ℕ → Shown
timed time = right 13 (micros time)

-- of no command there is no time
abbrev pub latencies_row : Option Spread → List Shown
latencies_row None = right 13 Nothing ∷ silent ∷ silent ∷ silent ∷ silent ∷ silent ∷ []
latencies_row (Some s) = timed s.mean ∷ timed s.p50 ∷ timed s.p95 ∷ timed s.p99 ∷ timed s.p999 ∷ timed s.longest ∷ []

abbrev pub parts_row : Option Spread → List Shown
parts_row None = right 13 Nothing ∷ silent ∷ silent ∷ silent ∷ []
parts_row (Some s) = timed s.host ∷ timed s.arbitration ∷ timed s.device ∷ timed s.service ∷ []

abbrev pub rates_row : Row → List Shown
rates_row row =
    right 10 (Whole row.commands) ∷ right 10 (percentage_of Four row.share) ∷ right 16 (whole_of row.iops) ∷ right 16 (whole_of row.bytes_per_second) ∷ []

abbrev pub columns_row : Columns → Row → List Shown
columns_row Rates row = rates_row row
columns_row Latencies row = latencies_row row.spread
columns_row Parts row = parts_row row.spread

-- a line: of which commands it tells, and what
abbrev pub line_text : Columns → (front : List Shown) → Row → List ℕ
line_text columns front row = rows_text (front ∷ columns_row columns row ∷ line_end ∷ [])

abbrev pub queue_row : (place : ℕ) → Member → List Shown
queue_row place m = words (codes "q") ∷ left 5 (Whole (place + 1)) ∷ left 8 (Text (class_text m.class)) ∷ []

abbrev pub class_row : Member → List Shown
class_row m = words (codes "all   ") ∷ left 8 (Text (class_text m.class)) ∷ []

abbrev pub all_row : List Shown
all_row = words (codes "all           ") ∷ []

abbrev pub queue_line : Columns → (place : ℕ) → Member → List ℕ
queue_line columns place m = line_text columns (queue_row place m) m.row

abbrev pub class_line : Columns → Member → List ℕ
class_line columns m = line_text columns (class_row m) m.row

-- ---- a note, where fewer than 20 commands of a row lie above a percentile
abbrev pub is_few : Measure → Option Spread → Bool
is_few above None = false
is_few above (Some s) = nat_lt (measured above s) 20

abbrev pub has_few : Measure → Answer → Bool
has_few above a =
    list_any (λ m. is_few above m.row.spread) a.queues.items || (list_any (λ m. is_few above m.row.spread) a.classes.items || is_few above a.all.spread)

abbrev pub name_if : Bool → (name : List ℕ) → List ℕ
name_if few name = if few then name else []

abbrev pub few_row : Answer → List Shown
few_row a =
    words (codes "fewer than 20 commands lie above ") ∷ words (name_if (has_few AboveP50 a) (codes "p50, ")) ∷ words (name_if (has_few AboveP95 a) (codes "p95, "))
    ∷ words (name_if (has_few AboveP99 a) (codes "p99, ")) ∷ words (codes "p99.9 of a row\n") ∷ []

abbrev pub few_text : Answer → List ℕ
few_text a = if has_few AboveP999 a then row_text (few_row a) else []

-- ---- the whole
abbrev pub section_text : Answer → Section → List ℕ
section_text a Origin = rows_text (origin_row a ∷ options_row a.about.options.now ∷ [])
section_text a Counts = rows_text (count_row a.all.commands ∷ began_row a.began ∷ end_row a.end ∷ warm_up_row a.asked.warm_up ∷ line_end ∷ [])
section_text a Machine =
    rows_text (device_row a.asked.device ∷ placement_row a.asked.device.placement ∷ pauses_row a.asked.device.pauses ∷ line_end ∷ [])
section_text a Utilization = row_text (utilization_row a)
section_text a Channels = placed (channel_text a) 0 a.channels.now
section_text a Picking =
    rows_text (line_end ∷ mechanism_row a.asked.mechanism ∷ burst_row (burst_of a.asked.settings)
    ∷ weights_row a.asked.mechanism a.asked.settings ∷ line_end ∷ [])
section_text a Fairness = rows_text (jain_row a.jain ∷ by_weight_row a.asked.mechanism a.jain_by_weight ∷ line_end ∷ [])
section_text a (Titles columns) = title_text columns
section_text a (Queues columns) = placed (queue_line columns) 0 a.queues.items
section_text a (Classes columns) = flat_map (class_line columns) a.classes.items
section_text a (All columns) = line_text columns all_row a.all
section_text a Few = few_text a

-- a table has its names, and a line for each queue, each class and all
abbrev pub sections : List Section
sections =
    Origin ∷ Counts ∷ Machine ∷ Utilization ∷ Channels ∷ Picking ∷ Fairness
    ∷ Titles Rates ∷ Queues Rates ∷ Classes Rates ∷ All Rates
    ∷ Titles Latencies ∷ Queues Latencies ∷ Classes Latencies ∷ All Latencies
    ∷ Titles Parts ∷ Queues Parts ∷ Classes Parts ∷ All Parts
    ∷ Few ∷ []

abbrev pub answer_text : Answer → List ℕ
answer_text a = flat_map (section_text a) sections
