use Rattle.nvme_simulation.proofs.Machines.{front_then}
use Rattle.nvme_simulation.proofs.Creating.{keeps_then}
use Rattle.nvme_simulation.proofs.creates.AdminHost.submit.Goals as goal

pub returns-then-not-fetched : goal.returns-then-not-fetched
returns-then-not-fetched c = record {
  front = front_then _ _ _ c.submit.ensures.front c.fetched.ensures.front;
  keeps = keeps_then c.args.front.now c.submit.new.self c.fetched.new.self c.submit.ensures.keeps c.fetched.ensures.keeps;
}

pub returns : goal.returns
returns c = record {
  front = front_then _ _ _ c.submit.ensures.front c.fetched.ensures.front;
  keeps = keeps_then c.args.front.now c.submit.new.self c.fetched.new.self c.submit.ensures.keeps c.fetched.ensures.keeps;
}
