use Rattle.nvme_trace.proofs.Exactness.{one_answer}
use Rattle.nvme_trace.proofs.laws.texts_have_one_answer.Goals as goal

pub returns : goal.returns
returns c = one_answer
