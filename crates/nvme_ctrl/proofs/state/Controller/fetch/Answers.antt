use Rattle.std.proofs.Common.{◌≡◌, ℕ, Some, length, sym, ap, subst, ◌∙◌}
use Rattle.std.proofs.lemmas.Bool.{false≢true}
use Rattle.nvme_ctrl.specs.Calls.{depth_of}
use Rattle.nvme_ctrl_log.specs.Calls.{MayFetch}
use Rattle.nvme_ctrl.specs.declared.state.SqState.{SqState}
use Rattle.nvme_ctrl.proofs.FetchCalls.{may_fetch, told_fetchable}
use Rattle.nvme_ctrl.proofs.FetchTold.{is_fetchable, slot_told}
use Rattle.nvme_ctrl.proofs.state.Controller.fetch.Goals as goal

pub returns-else-is_fetchable-clause-told : goal.returns-else-is_fetchable-clause-told
returns-else-is_fetchable-clause-told c rules late notes slots s slot m =
    absurd (false≢true (sym c.if-is_fetchable.false ∙ c.is_fetchable.ensures.no (is_fetchable rules late notes c.args.self.now slots s c.args.qid slot m)))

pub returns-then-is_fetchable-clause-may : goal.returns-then-is_fetchable-clause-may
returns-then-is_fetchable-clause-may c rules late notes slots s =
    let it = told_fetchable rules late notes c.args.self.now slots s c.args.qid (c.is_fetchable.ensures.yes c.if-is_fetchable.true) in
    subst (λ (state : SqState). MayFetch rules notes (depth_of c.args.self.now c.args.qid) (length slots) c.args.qid state.ring.head) (sym c.sq.ensures)
    (may_fetch rules late notes c.args.self.now slots s c.args.qid it.entry it.can)

pub returns-then-is_fetchable-clause-told : goal.returns-then-is_fetchable-clause-told
returns-then-is_fetchable-clause-told c rules late notes slots s slot m =
    ap (λ (n : ℕ). Some n) (subst (λ (state : SqState). state.ring.head ≡ slot) (sym c.sq.ensures)
    (slot_told rules late notes c.args.self.now slots s c.args.qid slot m))
