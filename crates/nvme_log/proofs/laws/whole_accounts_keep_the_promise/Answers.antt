use Rattle.nvme_log.proofs.Promise.{whole_promise}
use Rattle.nvme_log.proofs.laws.whole_accounts_keep_the_promise.Goals as goal

pub returns : goal.returns
returns c = whole_promise
