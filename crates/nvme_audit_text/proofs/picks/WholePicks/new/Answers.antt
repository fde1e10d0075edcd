use Rattle.std.proofs.Common.{refl}
use Rattle.nvme_audit_text.specs.WholeAudits.{most_broken}
use Rattle.nvme_audit_text.proofs.picks.WholePicks.new.Goals as goal

pub returns : goal.returns
returns c = record { mechanism_is = refl; span = (refl, c.judge_from.ensures.stands); found_are = c.none.ensures most_broken; judged_are = refl }
