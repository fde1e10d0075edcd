use Rattle.nvme_report.proofs.LoadedReports.{reports_are_one}
use Rattle.nvme_report.proofs.laws.reports_are_one.Goals as goal

pub returns : goal.returns
returns c = reports_are_one
