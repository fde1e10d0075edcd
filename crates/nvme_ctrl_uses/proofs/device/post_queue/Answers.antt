use Rattle.nvme_ctrl_uses.proofs.device.post_queue.Goals as goal

pub loop-preserved : goal.loop-preserved
loop-preserved c = c.post.ensures.front c.loop.invariant
