-- The queue that is open is on the region that is posted to; where none is open nothing changes.
use Rattle.std.proofs.Common.{◌≡◌, ◌∙◌, ℕ, Some, None, sym, ap, subst, inl, inr}
use Rattle.std.proofs.lemmas.Bool.{cases_eq}
use Rattle.std.proofs.lemmas.Option.{same_Some}
use Rattle.std.proofs.lemmas.Result.{on_ok_weaker}
use Rattle.nvme_log.specs.Queues.{open_cq}
use Rattle.nvme_log.specs.Rules.{Past}
use Rattle.nvme_front.specs.inside.Goes.{IsDrained}
use Rattle.nvme_front.specs.inside.Room.{IsRunning}
use Rattle.nvme_front.specs.inside.State.{past_of}
use Rattle.nvme_front.proofs.PostOne.{open_stays, on_ok}
use Rattle.nvme_front.proofs.state.FrontState.post_queue.Goals as goal

-- ---- no queue is open
pub returns-in_default-clause-drained : goal.returns-in_default-clause-drained
returns-in_default-clause-drained c = λ x is.
    let k : IsRunning c.args.self.now = c.requires.consistent.running c.requires.admin in
    let none : open_cq (past_of c.args.self.now) c.args.cqid ≡ None =
    ap (λ (p : Past). open_cq p c.args.cqid) (sym k.past_is) ∙ sym (c.cq_region.ensures _ _ k.notes k.stands) ∙ c.in_default.is in
    absurd (cc (none, is))

-- ---- it is open
pub post_region-requires-clause-is_open : goal.post_region-requires-clause-is_open
post_region-requires-clause-is_open c =
    let k : IsRunning c.args.self.now = c.requires.consistent.running c.requires.admin in
    ap (λ (p : Past). open_cq p c.args.cqid) (sym k.past_is) ∙ sym (c.cq_region.ensures _ _ k.notes k.stands) ∙ c.in-Some.is

pub returns-clause-others : goal.returns-clause-others
returns-clause-others c = λ x was. elim (cases_eq x c.in-Some.c) [
  | inl same ↦ on_ok_weaker c.post_region.result (λ d. subst (λ (y : ℕ). IsDrained c.post_region.new.self y) (sym same) d) c.post_region.ensures.drained
  | inr other ↦ on_ok c.post_region.result (c.post_region.ensures.others x other was)
]

pub returns-clause-drained : goal.returns-clause-drained
returns-clause-drained c =
    let s = c.args.self.now in
    let k : IsRunning s = c.requires.consistent.running c.requires.admin in
    let opened : open_cq (past_of c.post_region.new.self) c.args.cqid ≡ Some c.in-Some.c =
    open_stays s c.post_region.new.self c.post_region.ensures.posts c.args.cqid
    ∙ ap (λ (p : Past). open_cq p c.args.cqid) (sym k.past_is) ∙ sym (c.cq_region.ensures _ _ k.notes k.stands) ∙ c.in-Some.is in
    on_ok_weaker c.post_region.result (λ d x is. subst (λ (y : ℕ). IsDrained c.post_region.new.self y) (same_Some c.in-Some.c x (sym opened ∙ is)) d)
    c.post_region.ensures.drained
