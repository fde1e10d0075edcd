-- What a front is given, and what its log is a list of (profile).
use Rattle.std.specs.Prelude.{ℕ, zero, suc, List, [], ◌∷◌, ◌++◌, map, slice_index_or}
use Rattle.nvme_arbiter.specs.declared.settings.Mechanism.{Mechanism}
use Rattle.nvme_admin.specs.declared.region.Region.{Region}
use Rattle.nvme_admin.specs.History.{Start, TableHistory}
use Rattle.nvme_admin.specs.Accepted.{queue_table}
use Rattle.nvme_log.specs.declared.event.Event.{Event}
use Rattle.nvme_log.specs.Limits.{window_of}

-- a log read backwards, the newest event first: `e ∷ past` is e after the events of `past`
abbrev pub Past : Type 0
Past = List Event

-- what a front is given
pub record FrontRules : Type 0 where
  -- the arbitration mechanism
  pub mechanism : Mechanism
  -- the limits on queues, and the first settings of the Arbitration feature
  pub start : Start
  -- the sizes of the namespaces
  pub sizes : List ℕ
  -- the regions that were added, as the steps of a table history
  pub regions : TableHistory

-- 0, 1, .. up to n
abbrev pub upto : ℕ → List ℕ
upto zero = []
upto (suc n) = upto n ++ n ∷ []

-- the submission and the completion regions, by their numbers
abbrev pub sq_regions_of : FrontRules → List Region
sq_regions_of rules = (queue_table rules.start rules.regions).sq_regions

abbrev pub cq_regions_of : FrontRules → List Region
cq_regions_of rules = (queue_table rules.start rules.regions).cq_regions

-- the number of slots of a region among some
abbrev pub slots_at : List Region → ℕ → ℕ
slots_at regions r = slice_index_or (map (λ (x : Region). x.slots) regions) r 0

-- the most candidates of a submission region's queue
abbrev pub window_at : FrontRules → ℕ → ℕ
window_at rules r = window_of (slots_at (sq_regions_of rules) r)

-- something holds of each event of a log, with the events before it
abbrev pub Each : (Past → Event → Type 0) → Past → Type 0
Each P [] = Unit {0}
Each P (e ∷ past) = P past e × Each P past
