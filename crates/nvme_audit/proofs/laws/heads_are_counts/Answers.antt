use Rattle.nvme_audit.proofs.HeadLemmas.{heads}
use Rattle.nvme_audit.proofs.laws.heads_are_counts.Goals as goal

pub returns : goal.returns
returns c = heads
