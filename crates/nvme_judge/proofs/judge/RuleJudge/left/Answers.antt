use Rattle.std.proofs.Common.{sym, subst}
use Rattle.nvme_judge.specs.Standing.{JudgeStandsAt}
use Rattle.nvme_judge.proofs.RoundLemmas.{left_by}
use Rattle.nvme_judge.proofs.judge.RuleJudge.left.Goals as goal

pub returns-in-Weighted : goal.returns-in-Weighted
returns-in-Weighted c = λ m first prior past stands.
    left_by m first prior past c.args.seen.now c.args.pick.now _ c.left.result (subst (JudgeStandsAt m first prior past) (sym c.self.view_is) stands) c.in-Weighted.is c.left.ensures
