-- What a front that runs says of its open queues.
use Rattle.std.proofs.Common.{◌≡◌, ℕ, ◌≤◌, Some, ap, ◌∙◌}
use Rattle.nvme_arbiter.specs.Limits.{highest_qid}
use Rattle.nvme_log.specs.Rules.{Past}
use Rattle.nvme_log.specs.Queues.{Queue, open_sq}
use Rattle.nvme_front.specs.declared.state.FrontState.{FrontState}
use Rattle.nvme_front.specs.inside.State.{past_of}
use Rattle.nvme_front.specs.inside.Room.{IsRunning}

-- the identifiers of open submission queues are within their limit
pub open_few : (s : FrontState) → IsRunning s → (q : ℕ) (queue : Queue) → open_sq (past_of s) q ≡ Some queue → q ≤ highest_qid
open_few s k q queue is = k.stands.stands.holds.queues.few q queue (ap (λ (p : Past). open_sq p q) k.past_is ∙ is)
