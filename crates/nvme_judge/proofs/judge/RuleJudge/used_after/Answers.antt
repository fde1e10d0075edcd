use Rattle.std.proofs.Common.{sym, subst}
use Rattle.nvme_judge.specs.Standing.{JudgeStandsAt}
use Rattle.nvme_judge.proofs.RoundLemmas.{credit_by}
use Rattle.nvme_judge.proofs.judge.RuleJudge.used_after.Goals as goal

pub returns-in-Weighted : goal.returns-in-Weighted
returns-in-Weighted c = λ m first prior past stands.
    credit_by m first prior past c.args.seen.now c.args.pick.now _ c.used_after.result (subst (JudgeStandsAt m first prior past) (sym c.self.view_is) stands) c.in-Weighted.is c.used_after.ensures
