use Rattle.std.proofs.Common.{◌≡◌, ◌∙◌, ℕ, List, get_or, length, false, [], ap, subst, arith}
use Rattle.nvme_engine.specs.Standing.{StandsAt}
use Rattle.nvme_entry.specs.declared.completion.Cqe.{Cqe}
use Rattle.nvme_lane.specs.View.{PutView}
use Rattle.nvme_front.specs.declared.state.FrontState.{FrontState}
use Rattle.nvme_front.specs.inside.Pushing.{rules_at}
use Rattle.nvme_front.proofs.Beginnings.{cq_given, cq_given-fault}
use Rattle.nvme_front.proofs.state.FrontState.give_cqs.Goals as goal

pub unreachable-requires : goal.unreachable-requires
unreachable-requires c =
    let s : FrontState = c.args.self.now in
    let cqs : c.loop-c.self.cqs.items ≡ s.cqs.items = ap (λ (z : FrontState). z.cqs.items) c.loop-c.invariant.same in
    let read = c.index-end.ensures ∙ ap (λ (xs : List (PutView Cqe)). get_or xs c.loop-c.c c.index-end.result.now) cqs in
    let none = cq_given-fault s c.requires.roomy (length s.sqs.items) c.loop-c.c c.index-end.result.now (omega (arith, c.loop-c-test.true, c.len-c-end.ensures, s.cqs.ok.0)) read
    c.address-address.result c.slots-slots.result c.address-address.ensures c.slots-slots.ensures.value c.slots-slots.ensures.least c.slots-slots.ensures.most in
    let some = c.in_default.ensures.refused (rules_at s (length s.sqs.items) c.loop-c.c) false [] c.loop-c.invariant.stands in
    cc (none, some)

pub loop-c-preserved : goal.loop-c-preserved
loop-c-preserved c =
    let s : FrontState = c.args.self.now in
    let cqs : c.loop-c.self.cqs.items ≡ s.cqs.items = ap (λ (z : FrontState). z.cqs.items) c.loop-c.invariant.same in
    let read = c.index-end.ensures ∙ ap (λ (xs : List (PutView Cqe)). get_or xs c.loop-c.c c.index-end.result.now) cqs in
    record {
      same = ap (λ (z : FrontState). record z { engine = c.add_cq.new.self }) c.loop-c.invariant.same;
      stands = cq_given s c.requires.roomy (length s.sqs.items) c.loop-c.c c.index-end.result.now (omega (arith, c.loop-c-test.true, c.len-c-end.ensures, s.cqs.ok.0)) read
          c.address-address.result c.slots-slots.result c.address-address.ensures c.slots-slots.ensures.value c.add_cq.new.self
          (c.in-Ok.ensures.in_time (rules_at s (length s.sqs.items) c.loop-c.c) false c.loop-c.invariant.stands);
    }

pub returns-clause-stands : goal.returns-clause-stands
returns-clause-stands c =
    let s : FrontState = c.args.self.now in
    let some = c.requires.admin.1 in
    let all : c.loop-c.c ≡ length s.cqs.items =
    omega (arith, c.loop-c-test.false, c.len-c-end.ensures, s.cqs.ok.0, some, c.loop-c.auto.c-end (omega (arith, some, c.len-c-end.ensures, s.cqs.ok.0))) in
    subst (λ (n : ℕ). StandsAt (rules_at s (length s.sqs.items) n) false [] c.loop-c.self.engine) all c.loop-c.invariant.stands
