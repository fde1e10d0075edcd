-- A front with a region more, and what its engine is given of the regions (profile).
use Rattle.std.specs.Prelude.{◌≡◌, ℕ, ◌==◌, not, [], ◌∷◌, ◌++◌, length, take}
use Rattle.nvme_entry.specs.declared.completion.Cqe.{Cqe}
use Rattle.nvme_lane.specs.View.{PutView}
use Rattle.nvme_log.specs.Rules.{FrontRules}
use Rattle.nvme_front.specs.declared.region.SqRegion.{SqRegion}
use Rattle.nvme_front.specs.declared.state.FrontState.{FrontState}
use Rattle.nvme_front.specs.Regions.{cq_steps, sq_steps}
use Rattle.nvme_front.specs.inside.State.{gets_of, rules_of}

-- the rules with the first m submission regions and the first n completion regions alone
abbrev pub rules_at : FrontState → (m n : ℕ) → FrontRules
rules_at s m n = record (rules_of s) { regions = cq_steps (take n s.cqs.items) ++ sq_steps (gets_of (take m s.sqs.items)) }

-- nothing but the engine changed, and a submission region came. The front is late where an event came before
pub record HasSqMore (s t : FrontState) (x : SqRegion) : Type 0 where
  pub config : t.config ≡ s.config
  pub sqs : t.sqs.items ≡ s.sqs.items ++ x ∷ []
  pub cqs : t.cqs.items ≡ s.cqs.items
  pub jobs : t.jobs ≡ s.jobs
  pub log : t.log.items ≡ s.log.items
  pub late : t.late ≡ not (length s.log.items == 0)

-- the same of a completion region
pub record HasCqMore (s t : FrontState) (x : PutView Cqe) : Type 0 where
  pub config : t.config ≡ s.config
  pub sqs : t.sqs.items ≡ s.sqs.items
  pub cqs : t.cqs.items ≡ s.cqs.items ++ x ∷ []
  pub jobs : t.jobs ≡ s.jobs
  pub log : t.log.items ≡ s.log.items
  pub late : t.late ≡ not (length s.log.items == 0)
