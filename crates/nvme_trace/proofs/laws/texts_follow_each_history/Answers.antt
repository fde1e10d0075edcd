use Rattle.nvme_trace.proofs.Exactness.{each_prior}
use Rattle.nvme_trace.proofs.Leniently.{nothing_before}
use Rattle.nvme_trace.proofs.laws.texts_follow_each_history.Goals as goal

pub returns-clause-each : goal.returns-clause-each
returns-clause-each c = each_prior

pub returns-clause-first : goal.returns-clause-first
returns-clause-first c = nothing_before
