use Rattle.std.proofs.Common.{refl}
use Rattle.nvme_arbiter.proofs.MaskLemmas.{slots-closed}
use Rattle.nvme_arbiter.proofs.queues.QueuesFields.new.Goals as goal

pub returns : goal.returns
returns c = slots-closed _ refl
