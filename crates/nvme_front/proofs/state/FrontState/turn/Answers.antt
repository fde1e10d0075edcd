use Rattle.std.proofs.Common.{◌∙◌, sym, subst}
use Rattle.std.proofs.lemmas.Result.{err_from_is_err_and}
use Rattle.nvme_front.proofs.States.{Goes-trans, admin-goes}
use Rattle.nvme_front.specs.View.{GoesToEnd}
use Rattle.nvme_front.specs.inside.State.{view_of}
use Rattle.nvme_front.specs.declared.front.Step.{Step}
use Rattle.nvme_front.proofs.Filling.{to_end_after}
use Rattle.nvme_front.proofs.Still.{turn_means, error_since, balanced_trans}
use Rattle.nvme_front.proofs.Loading.{posts-load, loads-trans}
use Rattle.nvme_front.proofs.state.FrontState.turn.Goals as goal

pub proceed-requires-clause-admin : goal.proceed-requires-clause-admin
proceed-requires-clause-admin g c = admin-goes c.args.self.now c.catch_up.new.self c.catch_up.ensures.goes c.requires.admin

pub proceed-requires-clause-seat : goal.proceed-requires-clause-seat
proceed-requires-clause-seat g c = c.catch_up.ensures.goes.seat.lane ∙ c.requires.seat

pub returns-in_err-step-clause-goes : goal.returns-in_err-step-clause-goes
returns-in_err-step-clause-goes g c = Goes-trans _ _ _ c.catch_up.ensures.goes c.proceed.ensures.goes

pub returns-in_err-step-clause-error : goal.returns-in_err-step-clause-error
returns-in_err-step-clause-error g c =
    let p = err_from_is_err_and c.from_residual-in_err-step.result c.from_residual-in_err-step.ensures.1 in
    rw (p.1, p.2) (error_since c.args.self.now c.catch_up.new.self c.proceed.new.self c.in_err-step.field-0.0 c.catch_up.ensures.goes c.in_ok-moved.ensures.balanced c.catch_up.ensures.picks c.in_err-step.ensures.error)

pub returns-clause-goes : goal.returns-clause-goes
returns-clause-goes g c = Goes-trans _ _ _ c.catch_up.ensures.goes c.proceed.ensures.goes

pub returns-clause-step : goal.returns-clause-step
returns-clause-step g c =
    turn_means c.args.self.now c.catch_up.new.self c.proceed.new.self c.requires.admin c.proceed.ensures.consistent c.catch_up.ensures.goes c.proceed.ensures.goes
    c.catch_up.ensures.picks c.in_ok-moved.moved c.in_ok-moved.ensures.done c.in_ok-step.step c.in_ok-step.ensures.step c.step_after.result c.step_after.ensures

pub returns-clause-balanced : goal.returns-clause-balanced
returns-clause-balanced g c =
    balanced_trans c.args.self.now c.catch_up.new.self c.proceed.new.self c.catch_up.ensures.goes c.in_ok-moved.ensures.balanced c.proceed.ensures.balanced

pub returns-clause-to_end : goal.returns-clause-to_end
returns-clause-to_end g c =
    let up = c.catch_up.ensures in
    subst (λ (s : Step). GoesToEnd s (view_of c.args.self.now) (view_of c.proceed.new.self)) (sym c.step_after.ensures)
    (to_end_after c.args.self.now c.catch_up.new.self up.goes up.deletion up.picks c.proceed.new.self
    c.in_ok-moved.moved c.in_ok-step.step c.in_ok-step.ensures.to_end)

pub returns-in_err-moved-clause-loads : goal.returns-in_err-moved-clause-loads
returns-in_err-moved-clause-loads g c = posts-load c.args.self.now c.catch_up.new.self c.catch_up.ensures.goes c.catch_up.ensures.posts

pub returns-in_err-step-clause-loads : goal.returns-in_err-step-clause-loads
returns-in_err-step-clause-loads g c =
    loads-trans c.args.self.now c.catch_up.new.self c.proceed.new.self c.catch_up.ensures.consistent c.proceed.ensures.consistent c.proceed.ensures.goes
    (posts-load c.args.self.now c.catch_up.new.self c.catch_up.ensures.goes c.catch_up.ensures.posts) c.proceed.ensures.loads

pub returns-clause-loads : goal.returns-clause-loads
returns-clause-loads g c =
    loads-trans c.args.self.now c.catch_up.new.self c.proceed.new.self c.catch_up.ensures.consistent c.proceed.ensures.consistent c.proceed.ensures.goes
    (posts-load c.args.self.now c.catch_up.new.self c.catch_up.ensures.goes c.catch_up.ensures.posts) c.proceed.ensures.loads
