use Rattle.std.proofs.Common.{◌∙◌, sym}
use Rattle.nvme_simulation.proofs.Beginnings.{none_is}
use Rattle.nvme_simulation.proofs.hosts.Hosts.is_left_out.Goals as goal

pub returns-else-from-len : goal.returns-else-from-len
returns-else-from-len c t l rules late notes s = sym (c.seen.ensures rules late notes s) ∙ none_is c.seen.result c.is_none.result c.is_none.ensures t
