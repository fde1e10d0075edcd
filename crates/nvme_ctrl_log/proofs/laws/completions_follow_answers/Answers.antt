use Rattle.nvme_ctrl_log.proofs.Accounted.{completions_follow_answers}
use Rattle.nvme_ctrl_log.proofs.laws.completions_follow_answers.Goals as goal

pub returns : goal.returns
returns c = completions_follow_answers
