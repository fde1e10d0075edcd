use Rattle.std.proofs.Common.{ap, ◌∙◌}
use Rattle.std.proofs.lemmas.Option.{same_Some}
use Rattle.nvme_ctrl.specs.declared.state.SqState.{SqState}
use Rattle.nvme_ctrl.proofs.Dropping.{first_there, keeps_dropped}
use Rattle.nvme_ctrl.proofs.state.Controller.drop_oldest.Goals as goal

pub returns-clause-dropped : goal.returns-clause-dropped
returns-clause-dropped c = λ rules notes k g region to x rest h none may is.
    let first = first_there rules notes c.args.self.now c.args.slots.now k g c.args.qid region x rest h may.there is in
    keeps_dropped rules notes c.args.self.now c.args.slots.now k g c.args.qid region to x rest h none may is c.pop_window.new.self c.end.new.self c.end.new.slots c.in-Some.x c.sq.result.cqid
    c.pop_window.ensures.put (same_Some c.in-Some.x x.tag (c.in-Some.ensures.first ∙ first)) (ap (λ (s : SqState). s.cqid) c.sq.ensures) c.end.ensures.kept

pub returns-clause-others : goal.returns-clause-others
returns-clause-others c = λ rules notes k g region x rest h life is y other.
    let first = first_there rules notes c.args.self.now c.args.slots.now k g c.args.qid region x rest h life is in
    c.end.ensures.others y (λ e. other (e ∙ same_Some c.in-Some.x x.tag (c.in-Some.ensures.first ∙ first)))

pub returns-in_default-clause-dropped : goal.returns-in_default-clause-dropped
returns-in_default-clause-dropped c = λ rules notes k g region to x rest h none may is.
    let first = first_there rules notes c.args.self.now c.args.slots.now k g c.args.qid region x rest h may.there is in
    let none = c.in_default.ensures.first in
    absurd (cc (first, none))
