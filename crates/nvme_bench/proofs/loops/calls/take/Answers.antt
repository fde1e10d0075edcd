use Rattle.nvme_bench.proofs.loops.calls.take.Goals as goal

pub returns : goal.returns
returns c = record { front = c.take.ensures.front c.requires.front }
