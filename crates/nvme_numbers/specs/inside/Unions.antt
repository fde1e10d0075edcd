-- The commands of queues together. (profile)
use Rattle.std.specs.Prelude.{◌≡◌, ◌<◌, ℕ, ◌-◌, Bool, if◌then◌else◌, All, IsPermutation, List, [], Option, Some, filter, length, map, slice_index_or, unwrap_or}
use Rattle.std.specs.List.{flat_map, fold, list_any}
use Rattle.nvme_arbiter.specs.declared.settings.Class.{Class}
use Rattle.nvme_latency.specs.Times.{ranked_times, times_of}
use Rattle.nvme_numbers.specs.Sums.{no_sums, sums_plus}
use Rattle.nvme_numbers.specs.Told.{is_of}
use Rattle.nvme_numbers.specs.Feeding.{amount_plus}
use Rattle.nvme_numbers.specs.Rows.{IsFedRow, IsRow}
use Rattle.nvme_numbers.specs.Feeds.{nothing, settled}
use Rattle.nvme_numbers.specs.declared.answer.Coming.{Coming}
use Rattle.nvme_numbers.specs.declared.answer.Member.{Member}
use Rattle.nvme_numbers.specs.declared.feed.Amount.{Amount}
use Rattle.nvme_numbers.specs.declared.feed.Comings.{Comings}
use Rattle.nvme_numbers.specs.declared.answer.RankedQueue.{RankedQueue}
use Rattle.nvme_numbers.specs.declared.numbers.QueueTally.{QueueTally}
use Rattle.nvme_numbers.specs.declared.row.Row.{Row}
use Rattle.nvme_numbers.specs.declared.sums.Sums.{Sums}
use Rattle.nvme_numbers.specs.declared.tally.RankedTally.{RankedTally}

-- what a queue has of a class, or of any
abbrev pub times_in : Option Class → RankedQueue → List ℕ
times_in class q = if is_of class q.class then ranked_times q.tally.latencies else []

abbrev pub sums_in : Option Class → RankedQueue → Sums
sums_in class q = if is_of class q.class then q.tally.sums else no_sums

-- all of a class, or of any
abbrev pub all_times : Option Class → List RankedQueue → List ℕ
all_times class queues = flat_map (times_in class) queues

abbrev pub all_sums : Option Class → List RankedQueue → Sums
all_sums class queues = fold (λ s q. sums_plus s (sums_in class q)) no_sums queues

-- how commands came in all
abbrev pub coming_of : Comings → Coming
coming_of c = record { count = c.count; time = c.last - unwrap_or c.first c.last }

-- what was done of them while so many commands came
abbrev pub amount_in : Option Class → (count : ℕ) → RankedQueue → Amount
amount_in class count q = if is_of class q.class then settled count q.feed else nothing

abbrev pub all_amounts : Option Class → (count : ℕ) → List RankedQueue → Amount
all_amounts class count queues = fold (λ s q. amount_plus s (amount_in class count q)) nothing queues

-- exactly these, from the shortest latency to the longest
pub record IsUnion (class : Option Class) (queues : List RankedQueue) (union : RankedTally) : Type 0 where
  pub times : IsPermutation (all_times class queues) (ranked_times union.latencies)
  pub sums : union.sums ≡ all_sums class queues

-- the row of a class, or of any
abbrev pub IsUnionRow : (span whole : ℕ) → Option Class → List RankedQueue → Row → Type 0
IsUnionRow span whole class queues row = IsRow span whole (all_times class queues) (all_sums class queues) row

abbrev pub IsUnionFed : Coming → Option Class → List RankedQueue → Row → Type 0
IsUnionFed c class queues row = IsFedRow c.time (all_amounts class c.count queues) row.fed

abbrev pub IsClassFed : Coming → List RankedQueue → Member → Type 0
IsClassFed c queues m = IsUnionFed c (Some m.class) queues m.row

abbrev pub IsClassRow : (span whole : ℕ) → List RankedQueue → Member → Type 0
IsClassRow span whole queues m = IsUnionRow span whole (Some m.class) queues m.row

-- a class has a queue
abbrev pub has_ranked : List RankedQueue → Class → Bool
has_ranked queues class = list_any (λ q. is_of (Some class) q.class) queues

-- a row for each of some classes that has one
pub record AreClassRows (c : Coming) (span whole : ℕ) (queues : List RankedQueue) (classes : List Class) (rows : List Member) : Type 0 where
  pub of_each : map (λ m. m.class) rows ≡ filter (has_ranked queues) classes
  pub each : All (IsClassRow span whole queues) rows
  pub fed : All (IsClassFed c queues) rows

-- queues whose latencies are ranked
pub record IsRanked (q : QueueTally) (r : RankedQueue) : Type 0 where
  pub priority : r.class ≡ q.class
  pub times : IsPermutation (times_of q.tally.latencies) (ranked_times r.tally.latencies)
  pub sums : r.tally.sums ≡ q.tally.sums
  pub feed : r.feed ≡ q.feed

pub record AreRanked (queues : List QueueTally) (ranked : List RankedQueue) : Type 0 where
  pub count : length ranked ≡ length queues
  pub each : (k : ℕ) (q : QueueTally) (r : RankedQueue) → k < length ranked → IsRanked (slice_index_or queues k q) (slice_index_or ranked k r)

-- rows are those of the queues at their places
abbrev pub IsRowOf : (span whole : ℕ) → RankedQueue → Member → Type 0
IsRowOf span whole q m = IsRow span whole (ranked_times q.tally.latencies) q.tally.sums m.row × (m.class ≡ q.class)

pub record RowsAgree (span whole : ℕ) (queues : List RankedQueue) (rows : List Member) : Type 0 where
  pub each : (k : ℕ) (q : RankedQueue) (m : Member) → k < length rows
      → IsRowOf span whole (slice_index_or queues k q) (slice_index_or rows k m)

-- and what was done of these
pub record FedAgree (c : Coming) (queues : List RankedQueue) (rows : List Member) : Type 0 where
  pub each : (k : ℕ) (q : RankedQueue) (m : Member) → k < length rows
      → IsFedRow c.time (settled c.count (slice_index_or queues k q).feed) (slice_index_or rows k m).row.fed

-- a row for each queue
pub record AreRows (c : Coming) (span whole : ℕ) (queues : List RankedQueue) (rows : List Member) : Type 0 where
  pub count : length rows ≡ length queues
  pub agree : RowsAgree span whole queues rows
  pub fed : FedAgree c queues rows
