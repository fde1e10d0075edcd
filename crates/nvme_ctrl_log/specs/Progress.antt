-- What a command may wait for. (profile)
use Rattle.std.specs.Prelude.{◌≡◌, ◌≢◌, ℕ, Some, None}
use Rattle.nvme_log.specs.Rules.{FrontRules}
use Rattle.nvme_log.specs.Queues.{cq_region_of}
use Rattle.nvme_log.specs.Completions.{unposted_of}
use Rattle.nvme_ctrl_log.specs.Notes.{Notes, logged}
use Rattle.nvme_ctrl_log.specs.Tags.{answer_of}
use Rattle.nvme_ctrl_log.specs.Account.{HasTag}
use Rattle.nvme_ctrl_log.specs.Deletions.{deleting}
use Rattle.nvme_ctrl_log.specs.Posts.{IsFullRing}

-- the device took the command, and hasn't answered it
pub record IsWithDevice (notes : Notes) (r i : ℕ) : Type 0 where
  pub has : HasTag notes r i
  pub unanswered : answer_of notes r i ≡ None

-- the completion queue of a region is full: its host hasn't read it
pub record WaitsForHost (rules : FrontRules) (notes : Notes) (r : ℕ) : Type 0 where
  pub x : ℕ
  pub goes_to : cq_region_of (logged notes) r ≡ Some x
  pub full : IsFullRing rules notes x

-- a Delete of the admin queue waits for commands of the other queue that it deletes, which have no completion posted
pub record WaitsForQueue (notes : Notes) (r i : ℕ) : Type 0 where
  pub of_admin : r ≡ 0
  pub region : ℕ
  pub other : region ≢ 0
  pub deletes : deleting (logged notes) region ≡ Some i
  pub unposted : unposted_of (logged notes) region ≢ 0
