-- The front stays the same from queue to queue, and as long as nothing was posted nothing changed. The queues before have nothing to post,
-- and none is open from the bound on.
use Rattle.std.proofs.Common.{◌≡◌, ◌<◌, ◌≤◌, ℕ, length, Some, None, true, false}
use Rattle.nvme_front.specs.inside.Room.{IsConsistent}
use Rattle.nvme_front.specs.inside.Goes.{Goes, IsSame, HasAdmin, IsDrained}
use Rattle.nvme_front.specs.inside.Loads.{PostsOnly}
use Rattle.nvme_front.specs.inside.State.{past_of}
use Rattle.nvme_log.specs.Histories.{picks_in}
use Rattle.nvme_log.specs.Queues.{open_cq}
use Rattle.nvme_front.proofs.state.FrontState.post.Given as goal

abbrev pub invariant-loop-cqid : goal.invariant-loop-cqid
invariant-loop-cqid l = record {
  consistent : IsConsistent l.self;
  admin : HasAdmin l.self;
  goes : Goes l.fn.self l.self;
  jobs : l.self.jobs ≡ l.fn.self.jobs;
  picks : picks_in l.self.log.items ≡ picks_in l.fn.self.log.items;
  posts : PostsOnly l.fn.self l.self;
  more : l.posted ≡ true → length l.fn.self.log.items < length l.self.log.items;
  still : l.posted ≡ false → IsSame l.fn.self l.self;
  drained : (q : ℕ) → q < l.cqid → (x : ℕ) → open_cq (past_of l.self) q ≡ Some x → IsDrained l.self x;
  beyond : (q : ℕ) → l.cqid-end ≤ q → open_cq (past_of l.self) q ≡ None;
}
