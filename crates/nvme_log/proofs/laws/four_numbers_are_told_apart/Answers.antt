use Rattle.nvme_log.proofs.FourNumbers.{four_numbers_account}
use Rattle.nvme_log.proofs.laws.four_numbers_are_told_apart.Goals as goal

pub returns : goal.returns
returns c = record { accounted = four_numbers_account }
