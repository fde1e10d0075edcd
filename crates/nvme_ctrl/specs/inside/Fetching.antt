-- When a controller may fetch from a queue, by what it keeps in memory (profile).
use Rattle.std.specs.Prelude.{◌≡◌, ◌≢◌, ℕ, ◌+◌, ◌-◌, ◌<◌}
use Rattle.nvme_log.specs.Limits.{window_of}
use Rattle.nvme_ctrl.specs.Calls.{depth_of}
use Rattle.nvme_ctrl.specs.declared.state.Controller.{Controller}
use Rattle.nvme_ctrl.specs.kept.State.{sq_at, picked_in}

-- how many commands of a queue wait
abbrev pub waiting_in : Controller → ℕ → ℕ
waiting_in c q = (sq_at c.sqs q).window.len - picked_in c q

-- the queue isn't closing, a slot is free, the host submitted more, fewer of its commands hold a slot than its depth, and it has room for one that waits
pub record IsFetchable (c : Controller) (qid : ℕ) : Type 0 where
  pub not_closing : (sq_at c.sqs qid).closing ≡ 0
  pub some_free : c.free.len ≢ 0
  pub some_submitted : (sq_at c.sqs qid).ring.head ≢ (sq_at c.sqs qid).ring.tail
  pub in_depth : waiting_in c qid + (sq_at c.sqs qid).unposted < depth_of c qid
  pub room : waiting_in c qid < window_of (sq_at c.sqs qid).ring.slots
