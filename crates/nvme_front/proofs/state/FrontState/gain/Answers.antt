-- A result after another: each is weighed against what waited for it. A stray result is the last that was gained since the start.
use Rattle.std.proofs.Common.{◌≡◌, ◌∙◌, true, false, Ok, refl, ap, subst, arith}
use Rattle.std.specs.List.{All}
use Rattle.std.proofs.lemmas.Result.{err_from_is_err_and}
use Rattle.nvme_pool.specs.Seat.{IsUnknown}
use Rattle.nvme_jobs.specs.inside.Jobs.{JobsView}
use Rattle.nvme_front.proofs.States.{Goes-refl, Goes-trans, IsSame-refl, IsSame-trans, admin-goes}
use Rattle.nvme_front.proofs.Weighing.{balanced_still, balanced_trans, stray_since}
use Rattle.nvme_front.proofs.state.FrontState.gain.Goals as goal

pub loop-gained-init : goal.loop-gained-init
loop-gained-init c = record {
  consistent = c.requires.consistent;
  goes = Goes-refl c.args.self.now;
  balanced = balanced_still c.args.self.now c.args.self.now refl;
  log = refl;
  sqs = refl;
  cqs = refl;
  admin = c.requires.admin;
  seat = c.requires.seat;
  more = λ f. cc f;
  still = λ _. IsSame-refl c.args.self.now;
}

pub loop-gained-preserved : goal.loop-gained-preserved
loop-gained-preserved c =
    let i = c.loop-gained.invariant in
    let e = c.in_ok-gain_one.ensures in
    let more = e.more (ap Ok c.if-branch.true) in
    record {
      consistent = e.consistent;
      goes = Goes-trans c.args.self.now c.loop-gained.self c.gain_one.new.self i.goes e.goes;
      balanced = balanced_trans c.args.self.now c.loop-gained.self c.gain_one.new.self i.goes i.balanced e.balanced;
      log = e.log ∙ i.log;
      sqs = e.sqs ∙ i.sqs;
      cqs = e.cqs ∙ i.cqs;
      admin = admin-goes c.loop-gained.self c.gain_one.new.self e.goes i.admin;
      seat = e.goes.seat.lane ∙ i.seat;
      more = λ _. omega (arith, i.goes.gained, more);
      still = λ f. cc f;
    }

pub returns-in_err-gain_one-clause-goes : goal.returns-in_err-gain_one-clause-goes
returns-in_err-gain_one-clause-goes c = Goes-trans c.args.self.now c.loop-gained.self c.gain_one.new.self c.loop-gained.invariant.goes c.gain_one.ensures.goes

pub returns-in_err-gain_one-clause-stray : goal.returns-in_err-gain_one-clause-stray
returns-in_err-gain_one-clause-stray c =
    let p = err_from_is_err_and c.from_residual.result c.from_residual.ensures.1 in
    let s = c.in_err-gain_one.ensures.stray in
    rw (p.1, p.2) (s.0, s.1, stray_since s.0 c.args.self.now c.loop-gained.self c.gain_one.new.self c.loop-gained.invariant.goes c.loop-gained.invariant.balanced s.2)

pub returns-clause-goes : goal.returns-clause-goes
returns-clause-goes c = Goes-trans c.args.self.now c.loop-gained.self c.gain_one.new.self c.loop-gained.invariant.goes c.gain_one.ensures.goes

pub returns-clause-balanced : goal.returns-clause-balanced
returns-clause-balanced c =
    balanced_trans c.args.self.now c.loop-gained.self c.gain_one.new.self c.loop-gained.invariant.goes c.loop-gained.invariant.balanced c.in_ok-gain_one.ensures.balanced

pub returns-clause-more : goal.returns-clause-more
returns-clause-more c = λ r.
    let some : c.loop-gained.gained ≡ true = cc r in
    let more = c.loop-gained.invariant.more some in
    let rest = c.gain_one.ensures.goes.gained in
    omega (arith, more, rest)

pub returns-clause-still : goal.returns-clause-still
returns-clause-still c = λ r.
    let none : c.loop-gained.gained ≡ false = cc r in
    let same = c.loop-gained.invariant.still none in
    let last = c.in_ok-gain_one.ensures.still (ap Ok c.if-branch.false) in (
      IsSame-trans c.args.self.now c.loop-gained.self c.gain_one.new.self same last.0,
      subst (λ (j : JobsView). All IsUnknown j.hands.seat.ends) same.jobs last.1,
    )
