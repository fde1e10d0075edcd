-- Bounds on waits as a table for people, and in JSON. (profile)
use Rattle.std.specs.Prelude.{ℕ, ◌+◌, List, [], ◌∷◌, ◌++◌, Option, Some, None, Result, Ok, Err, codes, option_and_then, slice_get}
use Rattle.std.specs.List.{flat_map}
use Rattle.nvme_cells.specs.Rows.{Named, json_members, json_object}
use Rattle.nvme_cells.specs.Tables.{Shown, left, plain, right, row_text, words}
use Rattle.nvme_cells.specs.Values.{Nothing, Text, Value, Whole, whole_of}
use Rattle.nvme_numbers.specs.Columns.{column}
use Rattle.nvme_numbers.specs.Names.{class_text}
use Rattle.nvme_numbers.specs.Objects.{listed}
use Rattle.nvme_numbers.specs.Sheets.{placed}
use Rattle.nvme_numbers.specs.Tables.{line_end, micros, rows_text, silent}
use Rattle.nvme_waits.specs.Bounds.{waits_in}
use Rattle.nvme_waits.specs.declared.bounds.Bound.{Bound}
use Rattle.nvme_waits.specs.declared.bounds.Bounds.{Bounds}
use Rattle.nvme_waits.specs.declared.bounds.NoBound.{NoBound}
use Rattle.nvme_waits.specs.declared.bounds.NoBound.TheVariants as reason
use Rattle.nvme_waits.specs.declared.texts.Part.{Part}
use Rattle.nvme_waits.specs.declared.texts.Part.TheVariants.{Service, Open, Queues, Close}

-- why there is no bound in time, in words, and as a name for tools
abbrev pub reason_words : NoBound → List ℕ
reason_words reason.Urgent = codes "urgent commands may come without end"
reason_words reason.Striped = codes "none is told of striped devices"
reason_words reason.Pauses = codes "none is told of devices that pause"

abbrev pub reason_name : NoBound → List ℕ
reason_name reason.Urgent = codes "urgent"
reason_name reason.Striped = codes "striped"
reason_name reason.Pauses = codes "pauses"

-- the longest wait that was seen of the queue at a place
abbrev pub seen_at : Bounds → (place : ℕ) → Option ℕ
seen_at b place = option_and_then (λ q. q.longest) (slice_get (waits_in b).queues.items place)

-- ---- the table: times are in microseconds
abbrev pub time_if : Option ℕ → Value
time_if (Some time) = micros time
time_if None = Nothing

abbrev pub bound_time : Result ℕ NoBound → Value
bound_time (Ok time) = micros time
bound_time (Err why) = Nothing

abbrev pub head_row : (service : ℕ) → List Shown
head_row service =
    words (codes "wait for arbitration as the next command of its queue, in us; no service is longer than ") ∷ plain (micros service)
    ∷ words (codes "\nqueue class            seen        bound  picks before\n") ∷ []

-- the longest wait of a queue, how long one may be, and how many commands come before one at most
abbrev pub queue_row : (place : ℕ) → Bound → (seen : Option ℕ) → List Shown
queue_row place bound seen =
    words (codes "q") ∷ left 5 (Whole (place + 1)) ∷ left 8 (Text (class_text bound.class))
    ∷ right 13 (time_if seen) ∷ right 13 (bound_time bound.time) ∷ right 14 (whole_of bound.before) ∷ []

abbrev pub reason_row : Result ℕ NoBound → List Shown
reason_row (Ok time) = silent ∷ silent ∷ []
reason_row (Err why) = words (codes "  no bound: ") ∷ words (reason_words why) ∷ []

abbrev pub queue_line : Bounds → (place : ℕ) → Bound → List ℕ
queue_line b place bound =
    rows_text (queue_row place bound (seen_at b place) ∷ reason_row bound.time ∷ line_end ∷ [])

abbrev pub bounds_text : Bounds → List ℕ
bounds_text b = row_text (head_row b.service) ++ placed (queue_line b) 0 b.queues.items

-- ---- the key of an object: times are in picoseconds
abbrev pub bound_whole : Result ℕ NoBound → Value
bound_whole (Ok time) = Whole time
bound_whole (Err why) = Nothing

abbrev pub reason_value : Result ℕ NoBound → Value
reason_value (Ok time) = Nothing
reason_value (Err why) = Text (reason_name why)

abbrev pub queue_members : Bound → (seen : Option ℕ) → List Named
queue_members bound seen =
    column (codes "class") (Text (class_text bound.class))
    ∷ column (codes "wait_max_ps") (whole_of seen)
    ∷ column (codes "bound_ps") (bound_whole bound.time)
    ∷ column (codes "picks_before") (whole_of bound.before)
    ∷ column (codes "no_bound") (reason_value bound.time)
    ∷ []

abbrev pub queue_object : Bounds → (place : ℕ) → Bound → List ℕ
queue_object b place bound =
    json_object (column (codes "queue") (Whole (place + 1)) ∷ queue_members bound (seen_at b place))

abbrev pub part_text : Bounds → Part → List ℕ
part_text b Service = codes ",\"bounds\":{" ++ json_members (column (codes "service_max_ps") (Whole b.service) ∷ [])
part_text b Open = codes ",\"queues\":["
part_text b Queues = listed (queue_object b) b.queues.items
part_text b Close = codes "]}}\n"

abbrev pub parts : List Part
parts = Service ∷ Open ∷ Queues ∷ Close ∷ []

-- behind an object that is still open, which it ends
abbrev pub bounds_json : Bounds → List ℕ
bounds_json b = flat_map (part_text b) parts
