use Rattle.nvme_simulation.proofs.Machines.{front_then}
use Rattle.nvme_simulation.proofs.Creating.{keeps_then}
use Rattle.nvme_simulation.proofs.creates.AdminHost.collect.Goals as goal

pub returns-then-not-read : goal.returns-then-not-read
returns-then-not-read c = record {
  front = front_then _ _ _ c.post.ensures.front c.read.ensures.front;
  keeps = keeps_then c.args.front.now c.post.new.self c.read.new.self c.post.ensures.keeps c.read.ensures.keeps;
}

pub returns : goal.returns
returns c = record {
  front = front_then _ _ _ c.post.ensures.front c.read.ensures.front;
  keeps = keeps_then c.args.front.now c.post.new.self c.read.new.self c.post.ensures.keeps c.read.ensures.keeps;
}
