use Rattle.std.proofs.Common.{◌≡◌, ℕ, ◌<◌, ◌≤◌, length, None, true, false}
use Rattle.nvme_front.specs.inside.Room.{IsConsistent}
use Rattle.nvme_front.specs.inside.Goes.{Goes, IsSame, HasAdmin, IsScanned}
use Rattle.nvme_front.specs.inside.Loads.{Loads}
use Rattle.nvme_front.specs.inside.State.{past_of, view_of}
use Rattle.nvme_front.specs.View.{NoneCanBePosted}
use Rattle.nvme_log.specs.Histories.{picks_in}
use Rattle.nvme_log.specs.Queues.{pending}
use Rattle.nvme_front.proofs.state.FrontState.scan.Given as goal

abbrev pub invariant-loop-qid : goal.invariant-loop-qid
invariant-loop-qid l = record {
  consistent : IsConsistent l.self;
  goes : Goes l.fn.self l.self;
  cqs : l.self.cqs.items ≡ l.fn.self.cqs.items;
  jobs : l.self.jobs ≡ l.fn.self.jobs;
  picks : picks_in l.self.log.items ≡ picks_in l.fn.self.log.items;
  loads : Loads l.fn.self l.self;
  admin : HasAdmin l.self;
  none_pending : pending (past_of l.self) ≡ None;
  posted : NoneCanBePosted (view_of l.fn.self) → NoneCanBePosted (view_of l.self);
  more : l.fetched ≡ true → length l.fn.self.log.items < length l.self.log.items;
  still : l.fetched ≡ false → IsSame l.fn.self l.self;
  scanned : (q : ℕ) → q < l.qid → IsScanned l.self q;
  beyond : (q : ℕ) → l.qid-end ≤ q → IsScanned l.self q;
}
