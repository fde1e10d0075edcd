-- The front stays the same while completions are posted, and nothing changed as long as none was.
use Rattle.std.proofs.Common.{◌≡◌, ◌≢◌, ℕ, ◌<◌, ◌-◌, length, Some, true, false}
use Rattle.nvme_front.specs.inside.Room.{IsConsistent}
use Rattle.nvme_front.specs.inside.Goes.{Goes, IsSame, HasAdmin, IsDrained}
use Rattle.nvme_front.specs.inside.Loads.{PostsOnly}
use Rattle.nvme_log.specs.Histories.{picks_in}
use Rattle.nvme_log.specs.Queues.{open_cq}
use Rattle.nvme_front.specs.inside.State.{past_of}
use Rattle.nvme_front.proofs.state.FrontState.post_region.Given as goal

abbrev pub invariant-loop-posted : goal.invariant-loop-posted
invariant-loop-posted l = record {
  consistent : IsConsistent l.self;
  goes : Goes l.fn.self l.self;
  jobs : l.self.jobs ≡ l.fn.self.jobs;
  picks : picks_in l.self.log.items ≡ picks_in l.fn.self.log.items;
  posts : PostsOnly l.fn.self l.self;
  admin : HasAdmin l.self;
  is_open : open_cq (past_of l.self) l.fn.cqid ≡ Some l.fn.c;
  others : (x : ℕ) → x ≢ l.fn.c → IsDrained l.fn.self x → IsDrained l.self x;
  more : l.posted ≡ true → length l.fn.self.log.items < length l.self.log.items;
  still : l.posted ≡ false → IsSame l.fn.self l.self;
}

abbrev pub decreases-loop-posted : goal.decreases-loop-posted
decreases-loop-posted l = l.self.config.max_events - length l.self.log.items
