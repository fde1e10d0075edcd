use Rattle.nvme_jobs.proofs.Tickets.{each-is_executed_once}
use Rattle.nvme_jobs.proofs.laws.each_is_executed_once.Goals as goal

pub returns : goal.returns
returns c = each-is_executed_once
