use Rattle.nvme_bench.proofs.loops.calls.sq_tail.Goals as goal

pub returns : goal.returns
returns c = record { front = c.sq_tail.ensures.front c.args.slots.now c.requires.front }
