use Rattle.nvme_audit.proofs.commands.Commands.remove.Goals as goal

pub returns : goal.returns
returns c = λ q n. c.remove.ensures.updates.0 (q, n)
