-- The front stays the same from result to result, and as long as none was gained nothing changed.
use Rattle.std.proofs.Common.{◌≡◌, ◌<◌, length, true, false}
use Rattle.nvme_jobs.specs.Hands.{gained_count}
use Rattle.nvme_front.specs.inside.Room.{IsConsistent}
use Rattle.nvme_front.specs.inside.Goes.{Goes, IsSame, HasAdmin}
use Rattle.nvme_front.specs.inside.Turn.{Balanced}
use Rattle.nvme_front.proofs.state.FrontState.gain.Given as goal

abbrev pub invariant-loop-gained : goal.invariant-loop-gained
invariant-loop-gained l = record {
  consistent : IsConsistent l.self;
  goes : Goes l.fn.self l.self;
  balanced : Balanced l.fn.self l.self;
  log : l.self.log.items ≡ l.fn.self.log.items;
  sqs : l.self.sqs.items ≡ l.fn.self.sqs.items;
  cqs : l.self.cqs.items ≡ l.fn.self.cqs.items;
  admin : HasAdmin l.self;
  seat : l.self.jobs.hands.seat.lane ≡ l.fn.lanes;
  more : l.gained ≡ true → gained_count l.fn.self.jobs.hands < gained_count l.self.jobs.hands;
  still : l.gained ≡ false → IsSame l.fn.self l.self;
}

abbrev pub decreases-loop-gained : goal.decreases-loop-gained
decreases-loop-gained l = length l.self.jobs.hands.running
