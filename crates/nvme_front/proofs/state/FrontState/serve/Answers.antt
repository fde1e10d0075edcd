use Rattle.std.proofs.Common.{ℕ, ◌+◌, List, reverse, Ok, Err, ap, refl, sym, subst, ◌∙◌}
use Rattle.std.proofs.lemmas.Result.{err_from_is_err_and}
use Rattle.nvme_log.specs.Histories.{picks_in}
use Rattle.nvme_front.proofs.States.{Goes-trans, IsSame-sym, admin-goes}
use Rattle.nvme_front.proofs.Still.{served_means, scanned_same, log_error_means, pick_error_means, picked_balanced, balanced_still, balanced_trans}
use Rattle.nvme_front.specs.inside.State.{gets_of}
use Rattle.nvme_front.specs.View.{GoesToEnd}
use Rattle.nvme_front.specs.inside.State.{view_of}
use Rattle.nvme_front.specs.declared.front.Step.{Step}
use Rattle.nvme_front.proofs.Filling.{picks_one, serves_to_end}
use Rattle.nvme_front.proofs.HandedOver.{drained-handed}
use Rattle.nvme_log.specs.declared.event.Event.{Event}
use Rattle.nvme_log.specs.Loaded.{without_posts}
use Rattle.nvme_front.proofs.Loading.{posts-by, posts-load, loads-trans}
use Rattle.nvme_front.proofs.LoadedPick.{pick-load, look-load}
use Rattle.nvme_front.proofs.state.FrontState.serve.Goals as goal

pub returns-in_err-fetched-clause-error : goal.returns-in_err-fetched-clause-error
returns-in_err-fetched-clause-error g c =
    let p = err_from_is_err_and c.from_residual.result c.from_residual.ensures.1 in
    let scan = c.in_err-fetched.ensures in
    rw (p.1, p.2) (log_error_means c.args.self.now c.scan.new.self c.in_err-fetched.field-0.0 (balanced_still c.args.self.now c.scan.new.self c.scan.ensures.jobs) scan.picks (λ e. scan.full (ap Err e)) scan.no_stray)

pub pick-requires-clause-admin : goal.pick-requires-clause-admin
pick-requires-clause-admin g c = admin-goes c.args.self.now c.scan.new.self c.scan.ensures.goes c.requires.admin

pub returns-in_err-picked-clause-goes : goal.returns-in_err-picked-clause-goes
returns-in_err-picked-clause-goes g c = Goes-trans _ _ _ c.scan.ensures.goes c.pick.ensures.goes

pub returns-in_err-picked-clause-error : goal.returns-in_err-picked-clause-error
returns-in_err-picked-clause-error g c =
    let p = err_from_is_err_and c.from_residual-in_err-picked.result c.from_residual-in_err-picked.ensures.1 in
    let pick = c.in_err-picked.ensures in
    rw (p.1, p.2) (pick_error_means c.args.self.now c.scan.new.self c.pick.new.self c.in_err-picked.field-0.0
    c.scan.ensures.none_pending
    (picked_balanced c.args.self.now c.scan.new.self c.pick.new.self c.scan.ensures.goes c.scan.ensures.jobs pick.seat pick.running)
    (pick.none_picked ∙ c.scan.ensures.picks) (λ e. pick.full (ap Err e)) pick.no_stray)

pub returns-in-Picked-clause-goes : goal.returns-in-Picked-clause-goes
returns-in-Picked-clause-goes g c = Goes-trans _ _ _ c.scan.ensures.goes (Goes-trans _ _ _ c.pick.ensures.goes c.hand.ensures.goes)

pub returns-in-Picked-clause-step : goal.returns-in-Picked-clause-step
returns-in-Picked-clause-step g c =
    ap picks_in c.hand.ensures.log ∙ c.in_ok-picked.ensures.picked (ap Ok c.in-Picked.is) ∙ ap (λ (n : ℕ). n + 1) c.scan.ensures.picks

pub returns-in_default-clause-goes : goal.returns-in_default-clause-goes
returns-in_default-clause-goes g c = Goes-trans _ _ _ c.scan.ensures.goes c.pick.ensures.goes

pub returns-in_default-clause-step : goal.returns-in_default-clause-step
returns-in_default-clause-step g c =
    let scan = c.in_ok-fetched.ensures in
    let pick = c.in_ok-picked.ensures in
    served_means c.args.self.now c.scan.new.self c.pick.new.self pick.goes c.requires.none_pending scan.picks
    c.in_ok-fetched.fetched (λ t. scan.more (ap Ok t)) (λ f. let same = scan.still (ap Ok f) in (same, scanned_same c.scan.new.self c.args.self.now (IsSame-sym c.args.self.now c.scan.new.self same) scan.scanned)) c.in_ok-picked.picked
    (λ e. pick.picked (ap Ok e)) (λ e. pick.never_moved (ap Ok e)) (λ e. pick.idle (ap Ok e)) (λ e. pick.stalled (ap Ok e)) c.step_after.result c.step_after.ensures

pub returns-in_err-fetched-clause-balanced : goal.returns-in_err-fetched-clause-balanced
returns-in_err-fetched-clause-balanced g c = balanced_still c.args.self.now c.scan.new.self c.scan.ensures.jobs

pub returns-in_err-picked-clause-balanced : goal.returns-in_err-picked-clause-balanced
returns-in_err-picked-clause-balanced g c = picked_balanced c.args.self.now c.scan.new.self c.pick.new.self c.scan.ensures.goes c.scan.ensures.jobs c.pick.ensures.seat c.pick.ensures.running

pub returns-in_default-clause-balanced : goal.returns-in_default-clause-balanced
returns-in_default-clause-balanced g c = picked_balanced c.args.self.now c.scan.new.self c.pick.new.self c.scan.ensures.goes c.scan.ensures.jobs c.pick.ensures.seat c.pick.ensures.running

pub returns-in-Picked-clause-balanced : goal.returns-in-Picked-clause-balanced
returns-in-Picked-clause-balanced g c =
    balanced_trans c.args.self.now c.pick.new.self c.hand.new.self (Goes-trans _ _ _ c.scan.ensures.goes c.pick.ensures.goes)
    (picked_balanced c.args.self.now c.scan.new.self c.pick.new.self c.scan.ensures.goes c.scan.ensures.jobs c.pick.ensures.seat c.pick.ensures.running) c.hand.ensures.balanced

pub returns-in-Picked-clause-to_end : goal.returns-in-Picked-clause-to_end
returns-in-Picked-clause-to_end g c =
    let scan = c.in_ok-fetched.ensures in
    let one = c.in_ok-picked.ensures.picks_of (ap Ok c.in-Picked.is) in
    picks_one c.args.self.now c.scan.new.self c.pick.new.self c.hand.new.self scan.consistent (admin-goes c.args.self.now c.scan.new.self scan.goes c.requires.admin)
    scan.scanned scan.goes (Goes-trans c.scan.new.self c.pick.new.self c.hand.new.self c.pick.ensures.goes c.hand.ensures.goes) scan.picks
    (ap gets_of (c.hand.ensures.sqs ∙ c.pick.ensures.sqs)) one c.hand.ensures.log
    (λ io. drained-handed c.pick.new.self c.hand.new.self c.hand.ensures.log c.hand.ensures.cqs c.hand.ensures.in_hand (one.posted io (scan.posted c.requires.drained)))

pub returns-in_default-clause-to_end : goal.returns-in_default-clause-to_end
returns-in_default-clause-to_end g c =
    let scan = c.in_ok-fetched.ensures in
    let pick = c.in_ok-picked.ensures in
    let there = admin-goes c.args.self.now c.scan.new.self scan.goes c.requires.admin in
    let drained = scan.posted c.requires.drained in
    subst (λ (s : Step). GoesToEnd s (view_of c.args.self.now) (view_of c.pick.new.self)) (sym c.step_after.ensures)
    (serves_to_end c.args.self.now c.scan.new.self c.pick.new.self scan.consistent there
    c.scan.ensures.none_pending scan.scanned drained pick.consistent (admin-goes c.scan.new.self c.pick.new.self pick.goes there) scan.goes pick.goes scan.picks (ap gets_of pick.sqs) c.in_ok-fetched.fetched c.in_ok-picked.picked
    (λ e. let one = pick.picks_of (ap Ok e) in picks_one c.args.self.now c.scan.new.self c.pick.new.self c.pick.new.self scan.consistent there scan.scanned scan.goes pick.goes scan.picks (ap gets_of pick.sqs) one refl (λ io. one.posted io drained))
    (λ e. pick.never_moved (ap Ok e)) (λ e. pick.idle (ap Ok e)) (λ e. pick.stalled (ap Ok e)))

pub returns-in_err-picked-clause-loads : goal.returns-in_err-picked-clause-loads
returns-in_err-picked-clause-loads g c =
    let pick = c.pick.ensures in
    loads-trans c.args.self.now c.scan.new.self c.pick.new.self c.scan.ensures.consistent pick.consistent pick.goes c.scan.ensures.loads
    (posts-load c.scan.new.self c.pick.new.self pick.goes
    (record { gets = ap gets_of pick.sqs; log = ap (λ (xs : List Event). without_posts (reverse xs)) c.in_err-picked.ensures.unpicked }))

pub returns-in-Picked-clause-loads : goal.returns-in-Picked-clause-loads
returns-in-Picked-clause-loads g c =
    let a = c.args.self.now in
    let s = c.scan.new.self in
    let p = c.pick.new.self in
    let t = c.hand.new.self in
    let scan = c.in_ok-fetched.ensures in
    let pick = c.in_ok-picked.ensures in
    let picked = pick-load s p scan.consistent (admin-goes a s scan.goes c.requires.admin) pick.consistent pick.goes scan.scanned (ap gets_of pick.sqs)
    (pick.picks_of (ap Ok c.in-Picked.is)) (pick.picked (ap Ok c.in-Picked.is)) in
    loads-trans a p t pick.consistent c.hand.ensures.consistent c.hand.ensures.goes (loads-trans a s p scan.consistent pick.consistent pick.goes scan.loads picked)
    (posts-load p t c.hand.ensures.goes (posts-by p t c.hand.ensures.log c.hand.ensures.sqs))

pub returns-in_default-clause-loads : goal.returns-in_default-clause-loads
returns-in_default-clause-loads g c =
    let a = c.args.self.now in
    let s = c.scan.new.self in
    let p = c.pick.new.self in
    let scan = c.in_ok-fetched.ensures in
    let pick = c.in_ok-picked.ensures in
    loads-trans a s p scan.consistent pick.consistent pick.goes scan.loads
    (look-load s p scan.consistent (admin-goes a s scan.goes c.requires.admin) pick.consistent pick.goes scan.scanned (ap gets_of pick.sqs) c.in_ok-picked.picked
    (λ e. pick.picks_of (ap Ok e)) (λ e. pick.picked (ap Ok e)) (λ e. pick.never_moved (ap Ok e)) (λ e. (pick.idle (ap Ok e)).0) (λ e. (pick.stalled (ap Ok e)).0))
