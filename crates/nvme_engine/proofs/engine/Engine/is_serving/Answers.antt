use Rattle.std.proofs.Common.{◌≡◌, ℕ, Some, sym, ap, ◌∙◌, arith, inl, inr}
use Rattle.std.proofs.lemmas.Bool.{cases_lt, true≢false}
use Rattle.nvme_engine.proofs.Additions.{on_regions}
use Rattle.nvme_engine.proofs.Serving.{is_some_of, eq_some, not_serving}
use Rattle.nvme_engine.proofs.engine.Engine.is_serving.Goals as goal

pub returns-then-eq : goal.returns-then-eq
returns-then-eq c rules late notes s =
    let it = (c.serving.ensures.on_regions s.their s.their_late notes c.args.self.now.slots.items s.stands (on_regions s.their s.alike.adds) c.args.region).0
    (is_some_of c.serving.result c.args.region (sym c.eq.ensures ∙ c.if-eq.true)) in
    sym (s.served c.args.region c.loop-qid.qid it.0 it.1)

pub loop-qid-preserved : goal.loop-qid-preserved
loop-qid-preserved c rules late notes s q below named still = elim (cases_lt q c.loop-qid.qid) [
  | inl before ↦ c.loop-qid.invariant rules late notes s q before named still
  | inr from ↦ (
      let here : q ≡ c.loop-qid.qid = omega (arith, below, from) in
      let it = (c.serving.ensures.on_regions s.their s.their_late notes c.args.self.now.slots.items s.stands (on_regions s.their s.alike.adds) c.args.region).1
      (named ∙ ap (λ (x : ℕ). Some x) here, still) in
      true≢false (sym (c.eq.ensures ∙ eq_some c.serving.result c.args.region it) ∙ c.if-eq.false))
]

pub returns : goal.returns
returns c rules late notes s =
    sym (not_serving rules late notes c.args.self.now s c.args.region (λ q below. c.loop-qid.invariant rules late notes s q (let over = c.loop-qid-test.false in omega (arith, below, over))))
