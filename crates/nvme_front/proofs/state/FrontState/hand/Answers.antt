-- A job after another: each that is handed waits for its result.
use Rattle.std.proofs.Common.{◌∙◌, refl, arith}
use Rattle.nvme_front.proofs.States.{Goes-refl, Goes-trans, IsSame-refl, admin-goes}
use Rattle.nvme_front.proofs.Weighing.{balanced_still, balanced_trans}
use Rattle.nvme_front.proofs.state.FrontState.hand.Goals as goal

pub loop-handed-init : goal.loop-handed-init
loop-handed-init g c = record {
  consistent = c.requires.consistent;
  goes = Goes-refl c.args.self.now;
  balanced = balanced_still c.args.self.now c.args.self.now refl;
  log = refl;
  sqs = refl;
  cqs = refl;
  engine = refl;
  ends = refl;
  hand = refl;
  admin = c.requires.admin;
  seat = c.requires.seat;
  more = λ f. cc f;
  still = λ _. IsSame-refl c.args.self.now;
}

pub loop-handed-preserved : goal.loop-handed-preserved
loop-handed-preserved g c =
    let i = c.loop-handed.invariant in
    let e = c.hand_one.ensures in
    let more = e.more c.loop-handed-test.true in
    record {
      consistent = e.consistent;
      goes = Goes-trans c.args.self.now c.loop-handed.self c.hand_one.new.self i.goes e.goes;
      balanced = balanced_trans c.args.self.now c.loop-handed.self c.hand_one.new.self i.goes i.balanced e.balanced;
      log = e.log ∙ i.log;
      sqs = e.sqs ∙ i.sqs;
      cqs = e.cqs ∙ i.cqs;
      engine = e.engine ∙ i.engine;
      ends = e.ends ∙ i.ends;
      hand = e.in_hand ∙ i.hand;
      admin = admin-goes c.loop-handed.self c.hand_one.new.self e.goes i.admin;
      seat = e.goes.seat.lane ∙ i.seat;
      more = λ _. omega (arith, i.goes.handed, more);
      still = λ f. cc f;
    }

pub returns-clause-goes : goal.returns-clause-goes
returns-clause-goes g c = Goes-trans c.args.self.now c.loop-handed.self c.hand_one.new.self c.loop-handed.invariant.goes c.hand_one.ensures.goes

pub returns-clause-balanced : goal.returns-clause-balanced
returns-clause-balanced g c =
    balanced_trans c.args.self.now c.loop-handed.self c.hand_one.new.self c.loop-handed.invariant.goes c.loop-handed.invariant.balanced c.hand_one.ensures.balanced

pub returns-clause-sqs : goal.returns-clause-sqs
returns-clause-sqs g c = c.hand_one.ensures.sqs ∙ c.loop-handed.invariant.sqs

pub returns-clause-cqs : goal.returns-clause-cqs
returns-clause-cqs g c = c.hand_one.ensures.cqs ∙ c.loop-handed.invariant.cqs

pub returns-clause-in_hand : goal.returns-clause-in_hand
returns-clause-in_hand g c = c.hand_one.ensures.in_hand ∙ c.loop-handed.invariant.hand
