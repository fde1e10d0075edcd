use Rattle.nvme_engine.proofs.Accounts.{engines_keep_accounts}
use Rattle.nvme_engine.proofs.laws.engines_keep_accounts.Goals as goal

pub returns : goal.returns
returns c = engines_keep_accounts
