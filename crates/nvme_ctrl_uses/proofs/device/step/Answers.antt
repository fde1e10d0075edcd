use Rattle.nvme_ctrl_uses.proofs.device.step.Goals as goal

pub returns-in-Picked : goal.returns-in-Picked
returns-in-Picked c = record { front = c.pick.ensures.front (c.take.ensures.front c.requires.front) }

pub returns-in_default-matches : goal.returns-in_default-matches
returns-in_default-matches c = record { front = c.pick.ensures.front (c.take.ensures.front c.requires.front) }

pub returns : goal.returns
returns c = record { front = c.complete.ensures.front (c.take.ensures.front c.requires.front) }
