use Rattle.std.proofs.Common.{Ok, Err, ap, sym, subst}
use Rattle.std.proofs.lemmas.Result.{err_from_is_err_and}
use Rattle.nvme_front.specs.View.{GoesToEnd}
use Rattle.nvme_front.specs.inside.State.{view_of}
use Rattle.nvme_front.specs.declared.front.Step.{Step}
use Rattle.nvme_front.proofs.Deletes.{deletion_of, none_deleting, closed_pending}
use Rattle.nvme_front.proofs.Filling.{closes_to_end}
use Rattle.nvme_front.proofs.Still.{closed_means, log_error_means, balanced_still}
use Rattle.nvme_front.proofs.Loading.{posts-by, posts-load}
use Rattle.nvme_front.proofs.LoadedPick.{finish-load}
use Rattle.nvme_front.proofs.state.FrontState.proceed.Goals as goal

pub serve-requires-clause-none_pending : goal.serve-requires-clause-none_pending
serve-requires-clause-none_pending g c =
    none_deleting c.args.self.now (c.requires.consistent.running c.requires.admin) c.is_deleting.result c.is_deleting.ensures c.if-not-is_deleting.true

pub returns-in_err-finished-clause-error : goal.returns-in_err-finished-clause-error
returns-in_err-finished-clause-error g c =
    let p = err_from_is_err_and c.from_residual.result c.from_residual.ensures.1 in
    let finish = c.in_err-finished.ensures in
    rw (p.1, p.2) (log_error_means c.args.self.now c.finish.new.self c.in_err-finished.field-0.0 (balanced_still c.args.self.now c.finish.new.self c.finish.ensures.jobs) finish.picks (λ e. finish.full (ap Err e)) finish.no_stray)

pub returns-clause-step : goal.returns-clause-step
returns-clause-step g c =
    let finish = c.in_ok-finished.ensures in
    let d = deletion_of c.args.self.now (c.requires.consistent.running c.requires.admin) c.is_deleting.result c.is_deleting.ensures c.if-not-is_deleting.false in
    closed_means c.args.self.now c.finish.new.self d.deletion d.is_pending finish.picks c.in_ok-finished.finished
    (λ t. finish.more (ap Ok t)) (λ f. let still = finish.still (ap Ok f) in (still.0, still.1 d.deletion d.is_pending)) c.step_after.result c.step_after.ensures

pub returns-in_err-finished-clause-balanced : goal.returns-in_err-finished-clause-balanced
returns-in_err-finished-clause-balanced g c = balanced_still c.args.self.now c.finish.new.self c.finish.ensures.jobs

pub returns-clause-balanced : goal.returns-clause-balanced
returns-clause-balanced g c = balanced_still c.args.self.now c.finish.new.self c.finish.ensures.jobs

pub returns-clause-to_end : goal.returns-clause-to_end
returns-clause-to_end g c =
    let finish = c.in_ok-finished.ensures in
    let d = deletion_of c.args.self.now (c.requires.consistent.running c.requires.admin) c.is_deleting.result c.is_deleting.ensures c.if-not-is_deleting.false in
    subst (λ (s : Step). GoesToEnd s (view_of c.args.self.now) (view_of c.finish.new.self)) (sym c.step_after.ensures)
    (closes_to_end c.args.self.now c.finish.new.self d.deletion c.requires.drained d.is_pending c.in_ok-finished.finished
    (λ t. closed_pending c.args.self.now c.finish.new.self (finish.closed (ap Ok t))) (λ f. let still = finish.still (ap Ok f) in (still.0, still.1 d.deletion d.is_pending)))

pub returns-in_err-finished-clause-loads : goal.returns-in_err-finished-clause-loads
returns-in_err-finished-clause-loads g c =
    posts-load c.args.self.now c.finish.new.self c.finish.ensures.goes (posts-by c.args.self.now c.finish.new.self c.in_err-finished.ensures.unclosed c.finish.ensures.sqs)

pub returns-clause-loads : goal.returns-clause-loads
returns-clause-loads g c =
    let finish = c.in_ok-finished.ensures in
    finish-load c.args.self.now c.finish.new.self c.requires.consistent c.requires.admin finish.consistent finish.goes finish.sqs c.in_ok-finished.finished
    (λ t. finish.closed (ap Ok t)) (λ f. (finish.still (ap Ok f)).0)
