use Rattle.nvme_bench.proofs.loops.calls.cq_head.Goals as goal

pub returns : goal.returns
returns c = record { front = c.cq_head.ensures.front c.args.slots.now c.requires.front }
