use Rattle.std.proofs.Common.{◌≡◌, ◌∙◌, ℕ, List, get_or, length, false, [], ap, subst, arith}
use Rattle.nvme_engine.specs.Standing.{StandsAt}
use Rattle.nvme_front.specs.declared.region.SqRegion.{SqRegion}
use Rattle.nvme_front.specs.declared.state.FrontState.{FrontState}
use Rattle.nvme_front.specs.inside.Pushing.{rules_at}
use Rattle.nvme_front.proofs.Beginnings.{sq_given, sq_given-fault}
use Rattle.nvme_front.proofs.state.FrontState.give_sqs.Goals as goal

pub unreachable-requires : goal.unreachable-requires
unreachable-requires c =
    let s : FrontState = c.args.self.now in
    let sqs : c.loop-r.self.sqs.items ≡ s.sqs.items = ap (λ (z : FrontState). z.sqs.items) c.loop-r.invariant.same in
    let read = c.index.ensures ∙ ap (λ (xs : List SqRegion). get_or xs c.loop-r.r c.index.result.now) sqs in
    let none = sq_given-fault s c.requires.roomy c.loop-r.r 1 c.index.result.now (omega (arith, c.loop-r-test.true, c.len-r-end.ensures, s.sqs.ok.0)) read
    c.address-address.result c.slots-slots.result c.address-address.ensures c.slots-slots.ensures.value c.slots-slots.ensures.least c.slots-slots.ensures.most in
    let some = c.in_default.ensures.refused (rules_at s c.loop-r.r 1) false [] c.loop-r.invariant.stands in
    cc (none, some)

pub loop-r-preserved : goal.loop-r-preserved
loop-r-preserved c =
    let s : FrontState = c.args.self.now in
    let sqs : c.loop-r.self.sqs.items ≡ s.sqs.items = ap (λ (z : FrontState). z.sqs.items) c.loop-r.invariant.same in
    let read = c.index.ensures ∙ ap (λ (xs : List SqRegion). get_or xs c.loop-r.r c.index.result.now) sqs in
    record {
      same = ap (λ (z : FrontState). record z { engine = c.add_sq.new.self }) c.loop-r.invariant.same;
      stands = sq_given s c.requires.roomy c.loop-r.r 1 c.index.result.now (omega (arith, c.loop-r-test.true, c.len-r-end.ensures, s.sqs.ok.0)) read
          c.address-address.result c.slots-slots.result c.address-address.ensures c.slots-slots.ensures.value c.add_sq.new.self
          (c.in-Ok.ensures.in_time (rules_at s c.loop-r.r 1) false c.loop-r.invariant.stands);
    }

pub returns-clause-stands : goal.returns-clause-stands
returns-clause-stands c =
    let s : FrontState = c.args.self.now in
    let some = c.requires.admin.0 in
    let all : c.loop-r.r ≡ length s.sqs.items =
    omega (arith, c.loop-r-test.false, c.len-r-end.ensures, s.sqs.ok.0, some, c.loop-r.auto.r-end (omega (arith, some, c.len-r-end.ensures, s.sqs.ok.0))) in
    subst (λ (r : ℕ). StandsAt (rules_at s r 1) false [] c.loop-r.self.engine) all c.loop-r.invariant.stands
