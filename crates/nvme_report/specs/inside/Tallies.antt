-- What the report counts as it goes through a log (profile).
use Rattle.std.specs.Prelude.{◌≡◌, ℕ, ◌*◌, ◌-◌, ◌^◌, ◌<◌, ◌≤◌, List, [], ◌∷◌, Option, Some, None, length, get_or, codes, decimal}
use Rattle.nvme_front.specs.declared.settled.Sent.{Sent}
use Rattle.nvme_log.specs.Rules.{Past}
use Rattle.nvme_log.specs.Queues.{Queue, open_sq}
use Rattle.nvme_log.specs.Places.{fetched, picked}
use Rattle.nvme_report.specs.declared.reports.counts.Counts.{Counts}
use Rattle.nvme_report.specs.Report.{aborts_of, line}

-- the counts are those of a region after a log
pub record IsCounted (past : Past) (r : ℕ) (counts : Counts) : Type 0 where
  pub fetched : counts.fetched ≡ length (fetched past r)
  pub picked : counts.picked ≡ picked past r
  pub aborted : counts.aborted ≡ aborts_of past r

-- the counts of a region of which nothing is told
abbrev pub no_counts : Counts
no_counts = record { fetched = 0; picked = 0; aborted = 0 }

-- the counts of each region after a log
abbrev pub AreCounted : Past → List Counts → Type 0
AreCounted past counts = (r : ℕ) → IsCounted past r (get_or counts r no_counts)

-- the region of a queue
abbrev pub region_in : Option Queue → Option ℕ
region_in None = None
region_in (Some queue) = Some queue.region

-- and the list has for each identifier the region on which its queue is open
pub record Tallies (past : Past) (counts : List Counts) (regions : List (Option ℕ)) : Type 0 where
  pub counted : AreCounted past counts
  pub opened : (q : ℕ) → q < 2 ^ 16 → get_or regions q None ≡ region_in (open_sq past q)

-- the counts of a region tell of at most this number of events
pub record IsMost (n : ℕ) (counts : Counts) : Type 0 where
  pub fetched : counts.fetched ≤ n
  pub picked : counts.picked ≤ n * 65535
  pub aborted : counts.aborted ≤ n

abbrev pub AreMost : ℕ → List Counts → Type 0
AreMost n counts = (r : ℕ) → IsMost n (get_or counts r no_counts)

-- one event more can be counted
pub record IsFew (counts : Counts) : Type 0 where
  pub fetched : counts.fetched < 2 ^ 64 - 1
  pub picked : counts.picked < 2 ^ 127
  pub aborted : counts.aborted < 2 ^ 64 - 1

abbrev pub AreFew : List Counts → Type 0
AreFew counts = (r : ℕ) → IsFew (get_or counts r no_counts)

-- the line of a submission region with these counts
abbrev pub sq_line_of : ℕ → Sent → Counts → List ℕ
sq_line_of r sent counts =
    line (codes "sq " ∷ decimal r ∷ codes " script " ∷ decimal (length sent.script.items) ∷ codes " submitted " ∷ decimal sent.count
    ∷ codes " fetched " ∷ decimal counts.fetched ∷ codes " picked " ∷ decimal counts.picked ∷ codes " aborted " ∷ decimal counts.aborted ∷ [])

-- the first of a list
abbrev pub IsFirst : {A : Type 0} → A → List A → Type 0
IsFirst {A = A} x xs = (rest : List A) × (xs ≡ x ∷ rest)
