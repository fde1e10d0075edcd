use Rattle.nvme_log.proofs.Posts.{whole_answers}
use Rattle.nvme_log.proofs.laws.whole_accounts_answer.Goals as goal

pub returns : goal.returns
returns c = whole_answers
