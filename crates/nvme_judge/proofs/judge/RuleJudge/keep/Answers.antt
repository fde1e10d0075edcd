use Rattle.std.proofs.Common.{◌≡◌, refl, sym, subst, rules}
use Rattle.nvme_arbiter.specs.Observation.{class_in}
use Rattle.nvme_judge.specs.Standing.{JudgeStandsAt}
use Rattle.nvme_judge.specs.inside.Steps.{turn_class}
use Rattle.nvme_judge.proofs.JudgeLemmas.{stands_more}
use Rattle.nvme_judge.proofs.judge.RuleJudge.keep.Goals as goal

pub returns-clause-stands : goal.returns-clause-stands
returns-clause-stands c = λ m first prior past stands used.
    let class : c.turn_class-class.result ≡ turn_class c.self.inside.mechanism (class_in c.args.seen.now c.args.pick.now.qid) = search rules in
    stands_more m first prior past c.args.seen.now c.args.pick.now _ _ c.turn_class-class.result (subst (JudgeStandsAt m first prior past) (sym c.self.view_is) stands) used refl refl refl class c.note.ensures.noted c.note.ensures.others
