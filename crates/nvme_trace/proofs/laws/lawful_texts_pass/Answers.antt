use Rattle.nvme_trace.proofs.Leniently.{passes}
use Rattle.nvme_trace.proofs.laws.lawful_texts_pass.Goals as goal

pub returns : goal.returns
returns c = passes
