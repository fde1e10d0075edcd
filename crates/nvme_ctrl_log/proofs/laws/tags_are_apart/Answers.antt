use Rattle.nvme_ctrl_log.proofs.TagLaws.{tags_are_apart}
use Rattle.nvme_ctrl_log.proofs.laws.tags_are_apart.Goals as goal

pub returns : goal.returns
returns c = tags_are_apart
