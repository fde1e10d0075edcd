-- The regions of a front's rules are those of its ends.
use Rattle.std.proofs.Common.{◌≡◌, ℕ, zero, suc, true, List, [], ◌∷◌, ◌++◌, map, length, get_or, refl, ap, ◌∙◌}
use Rattle.std.proofs.lemmas.List.{length-map}
use Rattle.nvme_entry.specs.declared.submission.Sqe.{Sqe}
use Rattle.nvme_entry.specs.declared.completion.Cqe.{Cqe}
use Rattle.nvme_lane.specs.View.{GetView, PutView}
use Rattle.nvme_arbiter.specs.declared.settings.Mechanism.{Mechanism}
use Rattle.nvme_admin.specs.History.{Start}
use Rattle.nvme_admin.specs.QueueTable.{QueueTable}
use Rattle.nvme_admin.specs.declared.region.Region.{Region}
use Rattle.nvme_engine.specs.Regions.{only_adds}
use Rattle.nvme_log.specs.Rules.{FrontRules, sq_regions_of, cq_regions_of, slots_at}
use Rattle.nvme_front.specs.declared.region.SqRegion.{SqRegion}
use Rattle.nvme_front.specs.declared.state.FrontState.{FrontState}
use Rattle.nvme_front.specs.Regions.{sq_steps, cq_steps}
use Rattle.nvme_front.specs.inside.State.{gets_of, rules_of}
use Rattle.nvme_front.proofs.RegionSteps.{region_of_get, region_of_put, adds_regions, table_is}

-- the rules of a front with these ends
abbrev pub rules_by : Mechanism → Start → List ℕ → List (GetView Sqe) → List (PutView Cqe) → FrontRules
rules_by mechanism start sizes gets puts = record { mechanism = mechanism; start = start; sizes = sizes; regions = cq_steps puts ++ sq_steps gets }

module _ (mechanism : Mechanism) (start : Start) (sizes : List ℕ) (gets : List (GetView Sqe)) (puts : List (PutView Cqe)) where
  pub sqs_by : sq_regions_of (rules_by mechanism start sizes gets puts) ≡ map region_of_get gets
  sqs_by = ap (λ (t : QueueTable). t.sq_regions) (table_is start gets puts)

  pub cqs_by : cq_regions_of (rules_by mechanism start sizes gets puts) ≡ map region_of_put puts
  cqs_by = ap (λ (t : QueueTable). t.cq_regions) (table_is start gets puts)

-- the slots of a submission region
slots_of_get : (sqs : List SqRegion) (r : ℕ) → slots_at (map region_of_get (gets_of sqs)) r ≡ get_or (map (λ (s : SqRegion). s.end.slots) sqs) r 0
slots_of_get [] r = refl
slots_of_get (s ∷ sqs) zero = refl
slots_of_get (s ∷ sqs) (suc r) = slots_of_get sqs r

slots_of_put : (puts : List (PutView Cqe)) (c : ℕ) → slots_at (map region_of_put puts) c ≡ get_or (map (λ (p : PutView Cqe). p.slots) puts) c 0
slots_of_put [] c = refl
slots_of_put (p ∷ puts) zero = refl
slots_of_put (p ∷ puts) (suc c) = slots_of_put puts c

-- ---- of a state
module _ (s : FrontState) where
  -- only regions were added
  pub only_regions : only_adds (rules_of s).regions ≡ true
  only_regions = (adds_regions (gets_of s.sqs.items) s.cqs.items).only

  -- the regions of each kind
  pub sq_regions_are : sq_regions_of (rules_of s) ≡ map region_of_get (gets_of s.sqs.items)
  sq_regions_are = sqs_by (rules_of s).mechanism (rules_of s).start (rules_of s).sizes (gets_of s.sqs.items) s.cqs.items

  pub cq_regions_are : cq_regions_of (rules_of s) ≡ map region_of_put s.cqs.items
  cq_regions_are = cqs_by (rules_of s).mechanism (rules_of s).start (rules_of s).sizes (gets_of s.sqs.items) s.cqs.items

  -- the slots of a region
  pub slots_of_sq : (r : ℕ) → slots_at (sq_regions_of (rules_of s)) r ≡ get_or (map (λ (x : SqRegion). x.end.slots) s.sqs.items) r 0
  slots_of_sq r = ap (λ (rs : List Region). slots_at rs r) sq_regions_are ∙ slots_of_get s.sqs.items r

  pub slots_of_cq : (c : ℕ) → slots_at (cq_regions_of (rules_of s)) c ≡ get_or (map (λ (p : PutView Cqe). p.slots) s.cqs.items) c 0
  slots_of_cq c = ap (λ (rs : List Region). slots_at rs c) cq_regions_are ∙ slots_of_put s.cqs.items c

  -- their number
  pub number_of_sq : length (sq_regions_of (rules_of s)) ≡ length s.sqs.items
  number_of_sq = ap (λ (rs : List Region). length rs) sq_regions_are ∙ length-map (gets_of s.sqs.items) region_of_get ∙ length-map s.sqs.items (λ (x : SqRegion). x.end)

  pub number_of_cq : length (cq_regions_of (rules_of s)) ≡ length s.cqs.items
  number_of_cq = ap (λ (rs : List Region). length rs) cq_regions_are ∙ length-map s.cqs.items region_of_put
