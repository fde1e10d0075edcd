use Rattle.std.proofs.Common.{inl}
use Rattle.nvme_ctrl_log.proofs.FurtherAccounts.{account-stays}
use Rattle.nvme_ctrl_log.proofs.laws.regions_leave_accounts.Goals as goal

pub returns : goal.returns
returns c rules notes kind address slots sqs cqs h unnamed = account-stays rules kind address slots sqs cqs notes h (inl unnamed)
