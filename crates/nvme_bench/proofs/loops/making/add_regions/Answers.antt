use Rattle.nvme_bench.proofs.loops.making.add_regions.Goals as goal

pub returns-in_err-check : goal.returns-in_err-check
returns-in_err-check c = record { front = c.add_sq_region.ensures.front c.args.slots.now c.requires.front }

pub returns : goal.returns
returns c = record { front = c.add_cq_region.ensures.front c.args.slots.now (c.add_sq_region.ensures.front c.args.slots.now c.requires.front) }
