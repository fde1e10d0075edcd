-- What an answer tells of the time in which commands come. (profile)
use Rattle.std.specs.Prelude.{◌<◌, ℕ, ◌+◌, if◌then◌else◌, All, List, [], ◌∷◌, ◌++◌, Option, Some, None, length, slice_index_or}
use Rattle.nvme_arbiter.specs.declared.settings.Class.{Class}
use Rattle.nvme_numbers.specs.Collected.{queues_of, warm_up_of}
use Rattle.nvme_numbers.specs.Feeding.{Event, amount_of, fed_in, fed_time}
use Rattle.nvme_numbers.specs.Rows.{IsFedRow}
use Rattle.nvme_numbers.specs.Told.{is_of}
use Rattle.nvme_numbers.specs.declared.answer.Member.{Member}
use Rattle.nvme_model.specs.declared.finished.Finished.{Finished}
use Rattle.nvme_numbers.specs.declared.numbers.Numbers.{Numbers}
use Rattle.nvme_numbers.specs.declared.numbers.QueueTally.{QueueTally}
use Rattle.nvme_numbers.specs.declared.row.Row.{Row}

-- those of the queues of a class, or of all, of which the first has this number
abbrev pub fed_by : (warm_up : ℕ) → Option Class → (number : ℕ) → List QueueTally → List Event → List Finished
fed_by warm_up class number [] events = []
fed_by warm_up class number (q ∷ queues) events =
    (if is_of class q.class then fed_in warm_up number events else []) ++ fed_by warm_up class (number + 1) queues events

-- of the queue of a number
abbrev pub IsFedQueue : List Event → Numbers → (number : ℕ) → Row → Type 0
IsFedQueue events n number row = IsFedRow (fed_time (warm_up_of n) events) (amount_of (fed_in (warm_up_of n) number events)) row.fed

-- of the queues of a class, or of all
abbrev pub IsFedUnion : List Event → Numbers → Option Class → Row → Type 0
IsFedUnion events n class row = IsFedRow (fed_time (warm_up_of n) events) (amount_of (fed_by (warm_up_of n) class 1 (queues_of n) events)) row.fed

-- each row tells what was done of its commands while commands came, by events, the newest first
pub record TellsFed (events : List Event) (n : Numbers) (queues classes : List Member) (all : Row) : Type 0 where
  pub each : (k : ℕ) (m : Member) → k < length queues → IsFedQueue events n (k + 1) (slice_index_or queues k m).row
  pub by_class : All (λ m. IsFedUnion events n (Some m.class) m.row) classes
  pub together : IsFedUnion events n None all
