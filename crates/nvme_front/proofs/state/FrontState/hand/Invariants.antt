-- The front stays the same from job to job, and as long as none was handed nothing changed.
use Rattle.std.proofs.Common.{◌≡◌, ◌<◌, length, true, false}
use Rattle.nvme_jobs.specs.Hands.{in_hand}
use Rattle.nvme_front.specs.inside.Room.{IsConsistent}
use Rattle.nvme_front.specs.inside.Goes.{Goes, IsSame, HasAdmin}
use Rattle.nvme_front.specs.inside.Turn.{Balanced}
use Rattle.nvme_front.proofs.state.FrontState.hand.Given as goal

abbrev pub invariant-loop-handed : goal.invariant-loop-handed
invariant-loop-handed g l = record {
  consistent : IsConsistent l.self;
  goes : Goes l.fn.self l.self;
  balanced : Balanced l.fn.self l.self;
  log : l.self.log.items ≡ l.fn.self.log.items;
  sqs : l.self.sqs.items ≡ l.fn.self.sqs.items;
  cqs : l.self.cqs.items ≡ l.fn.self.cqs.items;
  engine : l.self.engine ≡ l.fn.self.engine;
  ends : l.self.jobs.hands.seat.ends ≡ l.fn.self.jobs.hands.seat.ends;
  hand : in_hand l.self.jobs.hands ≡ in_hand l.fn.self.jobs.hands;
  admin : HasAdmin l.self;
  seat : l.self.jobs.hands.seat.lane ≡ l.fn.lanes;
  more : l.handed ≡ true → length l.fn.self.jobs.hands.seat.handed < length l.self.jobs.hands.seat.handed;
  still : l.handed ≡ false → IsSame l.fn.self l.self;
}

abbrev pub decreases-loop-handed : goal.decreases-loop-handed
decreases-loop-handed g l = length l.self.jobs.hands.unhanded
