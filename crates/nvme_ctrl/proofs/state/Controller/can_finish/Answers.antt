use Rattle.std.proofs.Common.{ℕ, arith, inl, inr, below_more}
use Rattle.nvme_ctrl.specs.kept.State.{IsFinishable}
use Rattle.nvme_ctrl.proofs.FinishCall.{finishable_at, finishable_was, none_finishes}
use Rattle.nvme_ctrl.proofs.state.Controller.can_finish.Goals as goal

-- the queues before, and this one
pub loop-qid-preserved : goal.loop-qid-preserved
loop-qid-preserved c =
    below_more (λ (q : ℕ). IsFinishable c.args.self.now q → ⊥) _ c.loop-qid.invariant
    (λ is. elim (c.is_finishable.ensures.none c.if-is_finishable.false) [ inl idle ↦ is.closing idle | inr more ↦ more is.posted ])

pub returns-clause-none : goal.returns-clause-none
returns-clause-none c = λ rules late notes pool s none.
    none_finishes rules late notes c.args.self.now pool s (inr (λ q below. c.loop-qid.invariant q (omega arith)))

pub returns-then-self-eq0-clause-none : goal.returns-then-self-eq0-clause-none
returns-then-self-eq0-clause-none c = λ rules late notes pool s none. none_finishes rules late notes c.args.self.now pool s (inl c.if-self-eq0.true)

pub returns-then-is_finishable-clause-some : goal.returns-then-is_finishable-clause-some
returns-then-is_finishable-clause-some c = λ rules late notes pool s.
    finishable_at rules late notes c.args.self.now pool s c.loop-qid.qid
    (record { closing = c.is_finishable.ensures.closing c.if-is_finishable.true; posted = c.is_finishable.ensures.posted c.if-is_finishable.true })

pub returns-then-is_finishable-clause-first : goal.returns-then-is_finishable-clause-first
returns-then-is_finishable-clause-first c = λ rules late notes pool s q below is.
    c.loop-qid.invariant q below (finishable_was rules late notes c.args.self.now pool s q is)
