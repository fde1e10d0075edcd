-- What arbitration sees of a controller's queues, where the device holds some and sets the classes of some.
-- (Base Specification, Command Arbitration, Create I/O Submission Queue; queues that are held, classes that are set: profile)
use Rattle.std.specs.Prelude.{◌≡◌, ℕ, ◌==◌, Bool, true, false, if◌then◌else◌, List, [], ◌∷◌, length, map, Option, Some, None, option_map, unwrap_or}
use Rattle.std.specs.List.{list_any}
use Rattle.nvme_arbiter.specs.declared.pick.Seen.{Seen}
use Rattle.nvme_arbiter.specs.declared.settings.Class.{Class}
use Rattle.nvme_log.specs.declared.event.Event.TheVariants.{OpenSq}
use Rattle.nvme_log.specs.Queues.{Queue, open_sq}
use Rattle.nvme_log.specs.Places.{observation_of, waiting}
use Rattle.nvme_ctrl_log.specs.Notes.{Notes, Note, Logged, Held, Classed, logged}

-- a queue is held: the latest note of it since it was opened says so
abbrev pub is_held : Notes → ℕ → Bool
is_held [] q = false
is_held (Held qid on ∷ notes) q = if qid == q then on else is_held notes q
is_held (Logged (OpenSq qid region cqid class) ∷ notes) q = if qid == q then false else is_held notes q
is_held (note ∷ notes) q = is_held notes q

-- the class that the device set latest since a queue was opened, if it did
abbrev pub class_set : Notes → ℕ → Option Class
class_set [] q = None
class_set (Classed qid class ∷ notes) q = if qid == q then Some class else class_set notes q
class_set (Logged (OpenSq qid region cqid class) ∷ notes) q = if qid == q then None else class_set notes q
class_set (note ∷ notes) q = class_set notes q

-- an open queue as arbitration sees it: in the class that the device set, else in that of its Create, and with no command that waits where it is held
abbrev pub shown : Notes → Seen → Seen
shown notes seen = record {
  qid = seen.qid;
  class = unwrap_or (class_set notes seen.qid) seen.class;
  count = if is_held notes seen.qid then 0 else seen.count;
}

-- so an open queue, by its identifier and what it was opened with
abbrev pub shown_as : Notes → ℕ → Queue → Seen
shown_as notes q queue = shown notes (record { qid = q; class = queue.class; count = length (waiting (logged notes) queue.region) })

-- the open queue of an identifier as arbitration sees it. None where no queue is open under it
abbrev pub seen_in : Notes → ℕ → Option Seen
seen_in notes q = option_map (shown_as notes q) (open_sq (logged notes) q)

-- what arbitration sees: the open queues of the log, ascending
abbrev pub observed_of : Notes → List Seen
observed_of notes = map (shown notes) (observation_of (logged notes))

-- a note holds a queue, holds it no longer, or sets its class
abbrev pub is_arrangement : Note → Bool
is_arrangement (Held q on) = true
is_arrangement (Classed q class) = true
is_arrangement note = false

-- the device neither held a queue nor set a class
abbrev pub NoneArranged : Notes → Type 0
NoneArranged notes = list_any is_arrangement notes ≡ false
