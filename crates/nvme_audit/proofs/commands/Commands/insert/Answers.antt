use Rattle.nvme_audit.proofs.commands.Commands.insert.Goals as goal

pub returns-in-Ok-clause-inserts : goal.returns-in-Ok-clause-inserts
returns-in-Ok-clause-inserts c = λ q n. c.in-Ok.ensures.updates.0 (q, n)
