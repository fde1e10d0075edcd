-- What a contract sees of a `PlacedTable`, and when it tells a queue table (profile).
use Rattle.std.specs.Prelude.{◌≡◌, ℕ, ◌+◌, ◌==◌, Bool, true, not, nat_lt, ◌&&◌, if◌then◌else◌, List, [], ◌∷◌, length, Option, Some, None, is_some, option_map}
use Rattle.nvme_admin.specs.declared.bounds.TheConstants.{MAX_REGIONS, MIN_SLOTS, MAX_SLOTS}
use Rattle.nvme_admin.specs.declared.region.Region.{Region}
use Rattle.nvme_admin.specs.declared.verdict.SqEntry.{SqEntry}
use Rattle.nvme_admin.specs.declared.verdict.Verdict.{Verdict}
use Rattle.nvme_admin.specs.declared.verdict.Verdict.TheVariants.{OpenSq, OpenCq}
use Rattle.nvme_admin.specs.History.{Placing}
use Rattle.nvme_admin.specs.QueueTable.{QueueTable}
use Rattle.nvme_admin.specs.Layout.{view_of}
use Rattle.nvme_admin.specs.Standing.{TableView, Shows, IsSized, sq_of, cq_of}
use Rattle.nvme_placing.specs.declared.placement.Placement.{Placement}
use Rattle.nvme_placing.specs.declared.table.PlacedTable.{PlacedTable}

-- the page of a number: the number itself, and 1 for 0 (profile)
abbrev pub page_by : ℕ → ℕ
page_by n = if n == 0 then 1 else n

-- what a Create may ask for, as a history says it
abbrev pub placing_by : Placement → Placing
placing_by p = record { page = p.page; mqes = p.mqes; vectors = p.vectors }

-- what a Create may ask for where the queues of a table may lie anywhere, and None where each lies on a region
abbrev pub placing_of : PlacedTable → Option Placing
placing_of p = if p.anywhere == 0 then None else Some (record { page = page_by p.page; mqes = p.mqes; vectors = p.vectors })

-- the content of the table by regions that a placed table keeps its queues in (profile)
abbrev pub content_of : PlacedTable → TableView
content_of p = view_of p.table

-- a submission queue, wherever it lies
abbrev pub unplaced : SqEntry → SqEntry
unplaced queue = record queue { region = 0 }

-- a verdict, wherever its new queue lies
abbrev pub unplaced_verdict : Verdict → Verdict
unplaced_verdict (OpenSq qid region cqid class) = OpenSq qid 0 cqid class
unplaced_verdict (OpenCq qid region) = OpenCq qid 0
unplaced_verdict verdict = verdict

-- a verdict is that of a queue table: the same, and anywhere the same wherever its new queue lies
abbrev pub IsToldBy : Option Placing → Verdict → Verdict → Type 0
IsToldBy None a b = a ≡ b
IsToldBy (Some p) a b = unplaced_verdict a ≡ unplaced_verdict b

abbrev pub IsTold : PlacedTable → Verdict → Verdict → Type 0
IsTold p a b = IsToldBy (placing_of p) a b

-- the addresses of regions count by 2 from a number on (profile)
abbrev pub AreTokens : ℕ → List Region → Type 0
AreTokens first [] = Unit {0}
AreTokens first (r ∷ rs) = (r.address ≡ first) × AreTokens (first + 2) rs

-- a region of each kind for each identifier, under a token in the place of its address: twice the identifier for a submission region, and
-- 1 more for a completion region (profile)
pub record HasTokens (v : TableView) : Type 0 where
  pub sqs : length v.sq_regions ≡ MAX_REGIONS
  pub cqs : length v.cq_regions ≡ MAX_REGIONS
  pub sq_tokens : AreTokens 0 v.sq_regions
  pub cq_tokens : AreTokens 1 v.cq_regions

-- a table tells a queue table: it has the same queues and features. Where queues lie on regions it has the same regions, and where they may
-- lie anywhere the regions are not compared
pub record Tells (p : PlacedTable) (t : QueueTable) : Type 0 where
  pub placing : t.placing ≡ placing_of p
  pub sq : (q : ℕ) → option_map unplaced (sq_of (content_of p) q) ≡ option_map unplaced (t.sq q)
  pub cq : (q : ℕ) → is_some (cq_of (content_of p) q) ≡ is_some (t.cq q)
  pub nsq : (content_of p).nsq ≡ t.nsq
  pub ncq : (content_of p).ncq ≡ t.ncq
  pub numbers_set : (content_of p).numbers_set ≡ t.numbers_set
  pub created : (content_of p).created ≡ t.created
  pub settings : (content_of p).settings ≡ t.settings
  pub by_regions : placing_of p ≡ None → Shows (content_of p) t
  pub by_tokens : is_some (placing_of p) ≡ true → HasTokens (content_of p)
  pub sized : IsSized (content_of p)

-- a region may have this number of slots
abbrev pub is_ring_size : ℕ → Bool
is_ring_size slots = not (nat_lt slots MIN_SLOTS) && not (nat_lt MAX_SLOTS slots)
