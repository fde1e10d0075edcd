-- The state of a controller as it lies in memory, by queue (profile).
use Rattle.std.specs.Prelude.{◌≡◌, ◌≢◌, ℕ, ◌==◌, not, if◌then◌else◌, List, get_or, sum_by, Option, Some, None}
use Rattle.nvme_log.specs.Places.{one_if}
use Rattle.nvme_slots.specs.declared.ring.Ring.{Ring}
use Rattle.nvme_slots.specs.declared.chain.Chain.{Chain}
use Rattle.nvme_ctrl.specs.declared.state.SqState.{SqState}
use Rattle.nvme_ctrl.specs.declared.state.CqState.{CqState}
use Rattle.nvme_ctrl.specs.declared.state.Controller.{Controller}

abbrev pub no_ring : Ring
no_ring = record { slots = 0; head = 0; tail = 0 }

abbrev pub no_chain : Chain
no_chain = record { first = 0; last = 0; len = 0 }

abbrev pub no_sq_state : SqState
no_sq_state = record { ring = no_ring; window = no_chain; unposted = 0; cqid = 0; tag = 0; held = 0; closing = 0 }

abbrev pub no_cq_state : CqState
no_cq_state = record { ring = no_ring; ready = no_chain; phase = 1 }

-- the state of the queue of an identifier; beyond the last one, that of none
abbrev pub sq_at : List SqState → ℕ → SqState
sq_at sqs q = get_or sqs q no_sq_state

abbrev pub cq_at : List CqState → ℕ → CqState
cq_at cqs q = get_or cqs q no_cq_state

-- the slot of the Delete of a queue, where it is closing
abbrev pub delete_tag : SqState → Option ℕ
delete_tag state = if state.closing == 0 then None else Some state.tag

-- how many queues are closing
abbrev pub count_closing : List SqState → ℕ
count_closing sqs = sum_by (λ (state : SqState). one_if (not (state.closing == 0))) sqs

-- a queue is closing, and all its completions are posted
pub record IsFinishable (c : Controller) (q : ℕ) : Type 0 where
  pub closing : (sq_at c.sqs q).closing ≢ 0
  pub posted : (sq_at c.sqs q).unposted ≡ 0

-- how many commands of a queue are picked and not taken
abbrev pub picked_in : Controller → ℕ → ℕ
picked_in c q = if q == c.picked_qid then c.picked else 0
