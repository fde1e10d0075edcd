use Rattle.nvme_trace.proofs.Leniently.{allowed}
use Rattle.nvme_trace.proofs.laws.lawful_texts_are_allowed.Goals as goal

pub returns : goal.returns
returns c = allowed
