use Rattle.std.proofs.Common.{refl, sym}
use Rattle.nvme_judge.proofs.JudgeLemmas.{stands_first}
use Rattle.nvme_judge.proofs.judge.RuleJudge.new.Goals as goal

pub returns-clause-stands : goal.returns-clause-stands
returns-clause-stands c = λ prior quiet settings used. stands_first c.args.mechanism c.args.settings prior _ refl (sym settings) used refl c.new.ensures quiet
