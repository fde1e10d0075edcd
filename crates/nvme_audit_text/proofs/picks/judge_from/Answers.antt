use Rattle.std.proofs.Common.{[], refl}
use Rattle.nvme_audit_text.proofs.PickLemmas.{used_first}
use Rattle.nvme_audit_text.proofs.picks.judge_from.Goals as goal

pub returns-clause-stands : goal.returns-clause-stands
returns-clause-stands c = c.new.ensures.stands [] (λ class other qid. refl) refl (used_first c.args.mechanism c.args.settings)
