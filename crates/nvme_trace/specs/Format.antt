-- What a line of a trace says, or its first fault. (profile)
use Rattle.std.specs.Prelude.{ℕ, ◌+◌, ◌==◌, ◌&&◌, ◌||◌, Bool, false, nat_lt, if◌then◌else◌, codes, List, [], ◌∷◌, ◌++◌, length, map, Option, Some, None, is_some, ok_or, option_and_then, option_map, Result, Ok, Err, nat_eq}
use Rattle.std.specs.Cmp.Lexicographic.{pointwise}
use Rattle.std.specs.Str.{is_utf8}
use Rattle.serde_json.specs.Data.{Data, Items, no_items, item}
use Rattle.serde_json.specs.Find.{get, at, as_str, as_array, as_object}
use Rattle.serde_json.specs.Read.{read}
use Rattle.nvme_arbiter.specs.Limits.{queue_limit}
use Rattle.nvme_arbiter.specs.Observation.{is_observation_from}
use Rattle.nvme_arbiter.specs.ByClass.{same_for_all}
use Rattle.nvme_arbiter.specs.Standing.{nothing_used}
use Rattle.nvme_arbiter.specs.declared.kept.Kept.{Kept}
use Rattle.nvme_arbiter.specs.declared.kept.Last.{Last}
use Rattle.nvme_arbiter.specs.declared.kept.Used.{Used}
use Rattle.nvme_judge.specs.Starts.{last_fits, used_fits}
use Rattle.nvme_trace.specs.declared.fault.Field.{Field}
use Rattle.nvme_arbiter.specs.Settings.{settings_of}
use Rattle.nvme_arbiter.specs.History.{ArbitrationEvent, Picked, Changed}
use Rattle.nvme_arbiter.specs.declared.settings.Class.{Class}
use Rattle.nvme_arbiter.specs.declared.settings.Class.TheVariants.{Admin, Urgent, High, Medium, Low}
use Rattle.nvme_arbiter.specs.declared.settings.Mechanism.{Mechanism}
use Rattle.nvme_arbiter.specs.declared.settings.Mechanism.TheVariants.{RoundRobin, Weighted}
use Rattle.nvme_arbiter.specs.declared.pick.Seen.{Seen}
use Rattle.nvme_trace.specs.declared.fault.LineFault.{LineFault}
use Rattle.nvme_trace.specs.declared.fault.LineFault.TheVariants.{TooLong, NotUtf8, NotJson, NotObject, Bad, Unknown, NotObservation}
use Rattle.nvme_trace.specs.declared.fault.Field.TheVariants as field
use Rattle.nvme_trace.specs.declared.basis.Basis.{Basis}
use Rattle.nvme_trace.specs.declared.basis.Basis.TheVariants.{Profile, Specification}
use Rattle.nvme_trace.specs.declared.records.Head.{Head}
use Rattle.nvme_trace.specs.declared.records.TraceEvent.{TraceEvent}
use Rattle.nvme_trace.specs.declared.records.TraceEvent.TheVariants.{Pick, Set}
use Rattle.nvme_lines.specs.Lines.{longest_line}
use Rattle.nvme_trace.specs.Fields.{text_of}
use Rattle.nvme_trace.specs.Readings.{◌>>=◌, ◌>>◌, item_count, seen_by, only, field_count, value_at, whole, number_at, flag_at}

-- ---- the head

abbrev pub mechanism_named : Option (List ℕ) → Result Mechanism LineFault
mechanism_named None = Err (Bad field.Mechanism)
mechanism_named (Some name) = if pointwise nat_eq name (codes "round-robin") then Ok RoundRobin else (if pointwise nat_eq name (codes "weighted") then Ok Weighted else Err (Bad field.Mechanism))

abbrev pub mechanism_of : Data → Result Mechanism LineFault
mechanism_of d = mechanism_named (as_str d)

-- version 1 is the only one
abbrev pub version_of : ℕ → Result (Unit {0}) LineFault
version_of version = if version == 1 then Ok tt else Err (Bad field.Version)

-- what each head says: version 1, the mechanism and the settings
abbrev pub basics_in : Data → Result Head LineFault
basics_in d = do
  version ← number_at field.Version 1 d
  version_of version
  mechanism ← value_at field.Mechanism d >>= mechanism_of
  cdw11 ← number_at field.Cdw11 4294967295 d
  Ok (record { mechanism = mechanism; settings = settings_of cdw11 })

-- whether it tells what its arbiter kept, as that of a trace that begins in the middle
abbrev pub tells_state : Data → Bool
tells_state d = is_some (get (text_of field.Last) d) || is_some (get (text_of field.Used) d)

-- a head as this front writes it, which begins with the first pick
unfoldable pub head_in : Data → Result Head LineFault
head_in d = if tells_state d then Err Unknown else (basics_in d >>= (λ head. only 3 d >> Ok head))

-- ---- what an arbiter kept

-- an object of so many members, each of which has a place
abbrev pub members_are : ℕ → Field → Data → Result (Unit {0}) LineFault
members_are count name d = if is_some (as_object d) && (field_count d == count) then Ok tt else Err (Bad name)

abbrev pub one_at : List ℕ → Data → ℕ
one_at name d = if is_some (get name d) then 1 else 0

-- the identifier that was served last, where it is told
abbrev pub served_from : Option Data → Result (Option ℕ) LineFault
served_from None = Ok None
served_from (Some v) = ok_or (option_map (λ n. Some n) (whole 65535 v)) (Bad field.Last)

unfoldable pub served_in : List ℕ → Data → Result (Option ℕ) LineFault
served_in name d = served_from (get name d)

-- of all queues, and of each class
unfoldable pub last_in : Data → Result Last LineFault
last_in d = do
  all ← served_in (codes "all") d
  admin ← served_in (codes "admin") d
  urgent ← served_in (codes "urgent") d
  high ← served_in (codes "high") d
  medium ← served_in (codes "medium") d
  low ← served_in (codes "low") d
  members_are (one_at (codes "all") d + one_at (codes "admin") d + one_at (codes "urgent") d + one_at (codes "high") d + one_at (codes "medium") d + one_at (codes "low") d) field.Last d
  Ok (record { all = all; by_class = record { admin = admin; urgent = urgent; high = high; medium = medium; low = low } })

-- nothing was served where that isn't told
abbrev pub last_from : Option Data → Result Last LineFault
last_from None = Ok (record { all = None; by_class = same_for_all None })
last_from (Some v) = last_in v

unfoldable pub last_told : Data → Result Last LineFault
last_told d = last_from (get (text_of field.Last) d)

-- how many commands of a level were used, none where that isn't told
abbrev pub count_from : Option Data → Result ℕ LineFault
count_from None = Ok 0
count_from (Some v) = ok_or (whole 65535 v) (Bad field.Used)

unfoldable pub count_at : List ℕ → Data → Result ℕ LineFault
count_at name d = count_from (get name d)

unfoldable pub used_in : Data → Result Used LineFault
used_in d = do
  high ← count_at (codes "high") d
  medium ← count_at (codes "medium") d
  low ← count_at (codes "low") d
  members_are (one_at (codes "high") d + one_at (codes "medium") d + one_at (codes "low") d) field.Used d
  Ok (record { high = high; medium = medium; low = low })

abbrev pub used_from : Option Data → Result Used LineFault
used_from None = Ok nothing_used
used_from (Some v) = used_in v

unfoldable pub used_told : Data → Result Used LineFault
used_told d = used_from (get (text_of field.Used) d)

-- an arbiter can be in this state
abbrev pub if_last_fits : Head → Last → Result (Unit {0}) LineFault
if_last_fits head last = if last_fits head.mechanism last then Ok tt else Err (Bad field.Last)

abbrev pub if_used_fits : Head → Last → Used → Result (Unit {0}) LineFault
if_used_fits head last used = if used_fits head.mechanism head.settings last used then Ok tt else Err (Bad field.Used)

-- how many fields a head has
abbrev pub head_fields : Data → ℕ
head_fields d = (if is_some (get (text_of field.Last) d) then 4 else 3) + (if is_some (get (text_of field.Used) d) then 1 else 0)

-- what an arbiter keeps where a trace begins
unfoldable pub start_in : Data → Result Kept LineFault
start_in d = do
  head ← basics_in d
  last ← last_told d
  if_last_fits head last
  used ← used_told d
  if_used_fits head last used
  only (head_fields d) d
  Ok (record { mechanism = head.mechanism; settings = head.settings; last = last; used = used })

-- its mechanism and settings
abbrev pub head_of_kept : Kept → Head
head_of_kept kept = record { mechanism = kept.mechanism; settings = kept.settings }

-- ---- an observation

abbrev pub class_named : Option (List ℕ) → Option Class
class_named None = None
class_named (Some name) =
    if pointwise nat_eq name (codes "admin") then Some Admin
    else (if pointwise nat_eq name (codes "urgent") then Some Urgent
    else (if pointwise nat_eq name (codes "high") then Some High
    else (if pointwise nat_eq name (codes "medium") then Some Medium
    else (if pointwise nat_eq name (codes "low") then Some Low else None))))

-- the part of an array at an index, as a number of 16 bits
abbrev pub number_of_part : ℕ → Data → Option ℕ
number_of_part i d = option_and_then (whole 65535) (at i d)

abbrev pub class_of_part : ℕ → Data → Option Class
class_of_part i d = option_and_then (λ v. class_named (as_str v)) (at i d)

-- how many items a value has
abbrev pub part_count : Data → Option ℕ
part_count d = option_map item_count (as_array d)

unfoldable pub triple_of : Data → Option Seen
triple_of d =
    option_and_then (λ qid. option_and_then (λ class. option_map (λ count. record { qid = qid; class = class; count = count })
    (number_of_part 2 d)) (class_of_part 1 d)) (number_of_part 0 d)

-- an open queue: an array of identifier, class and count
unfoldable pub queue_of : Data → Option Seen
queue_of d = option_and_then (λ size. if size == 3 then triple_of d else None) (part_count d)

-- the queues so far, and those of the items
unfoldable pub queues_from : List Seen → Items → Option (List Seen)
queues_from before no_items = Some before
queues_from before (item d ds) = option_and_then (λ queue. queues_from (before ++ queue ∷ []) ds) (queue_of d)

abbrev pub few_queues : Items → Option (List Seen)
few_queues items = if nat_lt queue_limit (item_count items) then None else queues_from [] items

unfoldable pub queues_of : Data → Option (List Seen)
queues_of d = option_and_then few_queues (as_array d)

abbrev pub if_observed : List Seen → Option (List Seen)
if_observed seen = if is_observation_from 0 seen then Some seen else None

unfoldable pub observation_of : Data → Option (List Seen)
observation_of d = option_and_then if_observed (queues_of d)

-- ---- a pick or a change of the settings

unfoldable pub set_in : Data → Result ArbitrationEvent LineFault
set_in d = do
  cdw11 ← number_at field.Set 4294967295 d
  only 1 d
  Ok (Changed (settings_of cdw11))

-- whether a pick starts a round: no matter where the specification alone judges, so it may be missing there
unfoldable pub fresh_in : Basis → Data → Result Bool LineFault
fresh_in Profile d = flag_at field.Fresh d
fresh_in Specification d = if is_some (get (text_of field.Fresh) d) then flag_at field.Fresh d else Ok false

-- a number but 0
abbrev pub but_zero : Option ℕ → Option ℕ
but_zero None = None
but_zero (Some n) = if n == 0 then None else Some n

-- how many commands the device had room for, where that is told
abbrev pub room_at : Option Data → Result (Option ℕ) LineFault
room_at None = Ok None
room_at (Some v) = ok_or (option_map (λ n. Some n) (but_zero (whole 65535 v))) (Bad field.Room)

unfoldable pub room_in : Data → Result (Option ℕ) LineFault
room_in d = room_at (get (text_of field.Room) d)

-- how many fields the line of a pick has
abbrev pub pick_fields : Data → ℕ
pick_fields d = (if is_some (get (text_of field.Fresh) d) then 4 else 3) + (if is_some (get (text_of field.Room) d) then 1 else 0)

unfoldable pub pick_in : Basis → Data → Result ArbitrationEvent LineFault
pick_in basis d = do
  qid ← number_at field.Pick 65535 d
  n ← number_at field.N 65535 d
  room_in d
  fresh ← fresh_in basis d
  seen ← value_at field.Seen d >>= (λ v. ok_or (observation_of v) NotObservation)
  only (pick_fields d) d
  Ok (Picked seen (record { qid = qid; n = n; fresh = fresh }))

unfoldable pub event_in : Basis → Data → Result ArbitrationEvent LineFault
event_in basis d = if is_some (get (text_of field.Set) d) then set_in d else pick_in basis d

-- ---- a line

unfoldable pub data_of : List ℕ → Result Data LineFault
data_of line = if nat_lt longest_line (length line) then Err TooLong else (if is_utf8 line then ok_or (read line) NotJson else Err NotUtf8)

-- its value is an object
unfoldable pub object_in : Data → Result (Unit {0}) LineFault
object_in d = if is_some (as_object d) then Ok tt else Err NotObject

unfoldable pub head_of_line : List ℕ → Result Head LineFault
head_of_line line = do
  d ← data_of line
  object_in d
  head_in d

unfoldable pub start_of_line : List ℕ → Result Kept LineFault
start_of_line line = do
  d ← data_of line
  object_in d
  start_in d

-- the head that a line is
abbrev pub head_by : List ℕ → Result Head LineFault
head_by line = seen_by head_of_kept (start_of_line line)

unfoldable pub event_by : Basis → List ℕ → Result ArbitrationEvent LineFault
event_by basis line = do
  d ← data_of line
  object_in d
  event_in basis d

-- the room that an event tells: a change of the settings tells none
abbrev pub room_told : Data → Result (Option ℕ) LineFault
room_told d = if is_some (get (text_of field.Set) d) then Ok None else room_in d

abbrev pub room_read : Result (Option ℕ) LineFault → Option ℕ
room_read (Ok room) = room
room_read (Err e) = None

abbrev pub room_by : Result Data LineFault → Option ℕ
room_by (Ok d) = room_read (room_told d)
room_by (Err e) = None

-- how many commands the device had room for at the pick of a line, where the line tells it
abbrev pub room_of_line : List ℕ → Option ℕ
room_of_line line = room_by (data_of line)

-- the rooms of some lines, each behind its number
abbrev pub rooms_of : List (ℕ × List ℕ) → List (Option ℕ)
rooms_of lines = map (λ line. room_of_line line.1) lines

-- what this front writes of an event, and reads
abbrev pub event_of_line : List ℕ → Result ArbitrationEvent LineFault
event_of_line line = event_by Profile line

-- an event of the code as one of a history, which keeps no room
abbrev pub event_view : TraceEvent → ArbitrationEvent
event_view (Pick seen pick room) = Picked seen.items pick
event_view (Set settings) = Changed settings

abbrev pub room_view : TraceEvent → Option ℕ
room_view (Pick seen pick room) = room
room_view (Set settings) = None
