-- Nothing may be posted to the queues whose turn came.
use Rattle.std.proofs.Common.{◌≡◌, ◌-◌, ◌<◌, ◌≤◌, ℕ, None}
use Rattle.nvme_ctrl.specs.Posts.{next_post_of}
use Rattle.nvme_ctrl.specs.NextQueue.{turns_before}
use Rattle.nvme_ctrl.proofs.state.Controller.next_to_post.Given as goal

abbrev pub invariant-loop-next : goal.invariant-loop-next
invariant-loop-next l = record {
  few : l.turn ≤ 65;
  last : l.last ≤ 64;
  none : (p : ℕ) → p ≤ 64 → turns_before l.last p < l.turn → next_post_of l.self l.slots p ≡ None;
}

abbrev pub decreases-loop-next : goal.decreases-loop-next
decreases-loop-next l = 65 - l.turn
