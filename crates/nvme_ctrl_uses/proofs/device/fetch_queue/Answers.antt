use Rattle.nvme_ctrl_uses.proofs.device.fetch_queue.Goals as goal

pub loop-preserved : goal.loop-preserved
loop-preserved c = c.fetched.ensures.front c.loop.invariant
