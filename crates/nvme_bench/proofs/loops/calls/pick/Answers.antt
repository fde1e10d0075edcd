use Rattle.nvme_bench.proofs.loops.calls.pick.Goals as goal

pub returns : goal.returns
returns c = record { front = c.pick.ensures.front c.requires.front }
