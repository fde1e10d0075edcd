-- What a front cites of its engine: it has its slots, and it stands at rules with the same regions in another order.
use Rattle.std.proofs.Common.{◌≡◌, Bool, true, [], ap}
use Rattle.nvme_admin.specs.Accepted.{queue_table}
use Rattle.nvme_admin.specs.QueueTable.{QueueTable}
use Rattle.nvme_log.specs.Rules.{FrontRules}
use Rattle.nvme_ctrl_log.specs.Notes.{Notes}
use Rattle.nvme_engine.specs.Regions.{only_adds}
use Rattle.nvme_engine.specs.Standing.{StandsAt, HasPool}
use Rattle.nvme_engine.specs.declared.engine.Engine.{Engine}
use Rattle.nvme_engine.proofs.Reordered.{reordered, reordered_late}

-- an engine that stands has its slots
pub has_pool : (rules : FrontRules) (late : Bool) (notes : Notes) (e : Engine) → StandsAt rules late notes e → HasPool e
has_pool rules late notes e s = s.pool

module _ (rules other : FrontRules) (mechanism : other.mechanism ≡ rules.mechanism) (start : other.start ≡ rules.start) (sizes : other.sizes ≡ rules.sizes)
    (tables : queue_table other.start other.regions ≡ queue_table rules.start rules.regions) (adds : only_adds other.regions ≡ true) where
  -- before the first event
  pub reordered_first : (late : Bool) (e : Engine) → StandsAt rules late [] e → StandsAt other late [] e
  reordered_first late e s = reordered rules other late e mechanism start sizes tables adds s

  -- and where a region was added late
  pub reordered_later : (notes : Notes) (e : Engine) → StandsAt rules true notes e → StandsAt other true notes e
  reordered_later notes e s =
      reordered_late rules other (record {
        mechanism = mechanism;
        start = start;
        sizes = sizes;
        sqs = ap (λ (t : QueueTable). t.sq_regions) tables;
        cqs = ap (λ (t : QueueTable). t.cq_regions) tables;
        adds = adds;
      }) notes [] e s
