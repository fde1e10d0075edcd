-- What arbitration is shown of the queues that a controller keeps, and its regions where queues may lie anywhere (profile).
use Rattle.std.specs.Prelude.{◌≡◌, ℕ, suc, true, Some, is_some}
use Rattle.nvme_log.specs.Queues.{Queue, open_sq}
use Rattle.nvme_ctrl_log.specs.Notes.{Notes, logged}
use Rattle.nvme_ctrl_log.specs.Observation.{is_held, class_set}
use Rattle.nvme_ctrl_content.specs.Content.{Content}

-- each open queue is held as its log says, and has the class that was set
pub record HoldsShown (notes : Notes) (k : Content) : Type 0 where
  pub held : (q : ℕ) (queue : Queue) → open_sq (logged notes) q ≡ Some queue → k.held queue.region ≡ is_held notes q
  pub classed : (q : ℕ) (queue : Queue) → open_sq (logged notes) q ≡ Some queue → k.classed queue.region ≡ class_set notes q

-- where queues may lie anywhere, the regions are those of the admin queues and of the queues that were created
pub record HasRegionsMade (k : Content) : Type 0 where
  pub sqs : is_some k.table.placing ≡ true → k.nsq ≡ suc k.table.sqs_made
  pub cqs : is_some k.table.placing ≡ true → k.ncq ≡ suc k.table.cqs_made
