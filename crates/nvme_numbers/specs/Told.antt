-- What an answer tells of the commands that were collected. (profile)
use Rattle.std.specs.Prelude.{◌≡◌, ◌<◌, ℕ, zero, suc, ◌-◌, ◌==◌, Bool, true, if◌then◌else◌, All, List, [], ◌∷◌, Option, Some, None, filter, length, map, slice_get, slice_index_or, unwrap_or}
use Rattle.std.specs.List.{flat_map, fold, list_any}
use Rattle.nvme_arbiter.specs.Settings.{number_of_class}
use Rattle.nvme_arbiter.specs.declared.settings.Class.{Class}
use Rattle.nvme_arbiter.specs.declared.settings.Class.TheVariants.{Admin, Urgent, High, Medium, Low}
use Rattle.nvme_latency.specs.Times.{times_of}
use Rattle.nvme_numbers.specs.Collected.{began_of, queues_of}
use Rattle.nvme_numbers.specs.Rows.{IsRow}
use Rattle.nvme_numbers.specs.Sums.{no_sums, sums_plus}
use Rattle.nvme_numbers.specs.declared.answer.Member.{Member}
use Rattle.nvme_numbers.specs.declared.numbers.Numbers.{Numbers}
use Rattle.nvme_numbers.specs.declared.numbers.QueueTally.{QueueTally}
use Rattle.nvme_numbers.specs.declared.row.Row.{Row}
use Rattle.nvme_numbers.specs.declared.sums.Sums.{Sums}

-- a queue is of a class, or of any
abbrev pub is_of : Option Class → Class → Bool
is_of None class = true
is_of (Some wanted) class = number_of_class wanted == number_of_class class

-- what a queue has of a class, or of any
abbrev pub tallied_times : Option Class → QueueTally → List ℕ
tallied_times class q = if is_of class q.class then times_of q.tally.latencies else []

abbrev pub tallied_sums : Option Class → QueueTally → Sums
tallied_sums class q = if is_of class q.class then q.tally.sums else no_sums

-- all of a class, or of any
abbrev pub latencies_in : Option Class → List QueueTally → List ℕ
latencies_in class queues = flat_map (tallied_times class) queues

abbrev pub totals_in : Option Class → List QueueTally → Sums
totals_in class queues = fold (λ s q. sums_plus s (tallied_sums class q)) no_sums queues

-- those of the queue of a number, from 1: none of a queue that isn't there
abbrev pub latencies_if : Option QueueTally → List ℕ
latencies_if None = []
latencies_if (Some q) = times_of q.tally.latencies

abbrev pub latencies_at : (number : ℕ) → List QueueTally → List ℕ
latencies_at zero queues = []
latencies_at (suc place) queues = latencies_if (slice_get queues place)

-- a class has a queue
abbrev pub has_queue : List QueueTally → Class → Bool
has_queue queues class = list_any (λ q. is_of (Some class) q.class) queues

-- the classes that have one, in the order of their rows, each once
abbrev pub all_classes : List Class
all_classes = Admin ∷ Urgent ∷ High ∷ Medium ∷ Low ∷ []

abbrev pub classes_of : List QueueTally → List Class
classes_of queues = filter (has_queue queues) all_classes

-- from when the first command that counts came
abbrev pub span_of : Numbers → ℕ → ℕ
span_of n end = end - unwrap_or (began_of n) end

-- how many commands were collected
abbrev pub commands_of : Numbers → ℕ
commands_of n = length (latencies_in None (queues_of n))

-- of the commands of a queue alone, out of all
abbrev pub IsQueueRow : Numbers → ℕ → QueueTally → Member → Type 0
IsQueueRow n end q m = IsRow (span_of n end) (commands_of n) (times_of q.tally.latencies) q.tally.sums m.row × (m.class ≡ q.class)

-- of those of the queues of a class, or of all queues
abbrev pub TellsUnion : Numbers → ℕ → Option Class → Row → Type 0
TellsUnion n end class row = IsRow (span_of n end) (commands_of n) (latencies_in class (queues_of n)) (totals_in class (queues_of n)) row

-- a row for each queue in their order, for each class that has one, and for all
pub record Tells (n : Numbers) (end : ℕ) (queues classes : List Member) (all : Row) : Type 0 where
  pub count : length queues ≡ length (queues_of n)
  pub each : (k : ℕ) (q : QueueTally) (m : Member) → k < length queues
      → IsQueueRow n end (slice_index_or (queues_of n) k q) (slice_index_or queues k m)
  pub classes_are : map (λ m. m.class) classes ≡ classes_of (queues_of n)
  pub by_class : All (λ m. TellsUnion n end (Some m.class) m.row) classes
  pub together : TellsUnion n end None all
