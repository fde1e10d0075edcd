use Rattle.nvme_ctrl_uses.proofs.device.serve.Goals as goal

pub post_queue-requires-2 : goal.post_queue-requires-2
post_queue-requires-2 c = record { front = c.finish.ensures.front c.post_queue.ensures.front }
