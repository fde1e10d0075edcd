-- What was popped is the oldest picked command, which is taken then.
use Rattle.std.proofs.Common.{◌≡◌, ℕ, ◌-◌, List, ◌∷◌, Some, None, refl, sym, subst, ◌∙◌}
use Rattle.std.proofs.lemmas.Bool.{false≢true, lt-ltb}
use Rattle.nvme_ctrl_log.specs.Notes.{Taken}
use Rattle.nvme_ctrl.specs.Calls.{HasTaken}
use Rattle.nvme_ctrl.specs.Standing.{IsController}
use Rattle.nvme_slots.specs.declared.chain.Chain.{Chain}
use Rattle.nvme_slots.specs.declared.slot.Slot.{Slot}
use Rattle.nvme_ctrl.specs.declared.state.Controller.{Controller}
use Rattle.nvme_slots.specs.Pool.{slot_at, IsChain, shorter}
use Rattle.nvme_ctrl.specs.kept.State.{sq_at}
use Rattle.nvme_ctrl.proofs.TakeCall.{took, took_pool, took_slot, take-stands, take-inside, take-first_inside, take-first_there}
use Rattle.nvme_slots.proofs.Chains.{pop-first, pop-shorter}
use Rattle.nvme_slots.proofs.Generations.{put_next_generation}
use Rattle.nvme_ctrl.proofs.state.Controller.take.Goals as goal

-- the slot is out, with its next generation
its_pool : (c : goal.After-self-1) → c.put_out.new.slots ≡ took_pool c.args.slots.now c.in_ok-tag.tag
its_pool c = c.put_out.ensures

-- what was popped is the first of its queue's chain
is_first : (c : goal.After-self-1) (x : ℕ) (rest : List ℕ) → IsChain c.args.slots.now (sq_at c.args.self.now.sqs c.args.self.now.picked_qid).window (x ∷ rest) → Some c.in_ok-tag.tag ≡ Some x
is_first c x rest linked = c.in_ok-tag.ensures.first ∙ pop-first c.args.slots.now (sq_at c.args.self.now.sqs c.args.self.now.picked_qid).window x rest linked

pub returns-clause-generation : goal.returns-clause-generation
returns-clause-generation c rules late notes s =
    put_next_generation c.args.slots.now c.put_out.new.slots c.in_ok-tag.tag (took_slot (slot_at c.args.slots.now c.in_ok-tag.tag)) (its_pool c)
    (take-inside rules late notes c.args.self.now c.args.slots.now s c.if-self-eq0.false c.in_ok-tag.tag (is_first c)) refl

pub returns-clause-stands : goal.returns-clause-stands
returns-clause-stands c rules late notes s =
    let self : Controller = c.args.self.now in
    let slots : List Slot = c.args.slots.now in
    let window : Chain = (sq_at self.sqs self.picked_qid).window in
    let tag : ℕ = c.in_ok-tag.tag in
    let done : HasTaken rules late notes tag (took self (shorter slots window)) (took_pool slots tag) =
    take-stands rules late notes self slots s c.if-self-eq0.false (shorter slots window) tag (is_first c) (pop-shorter slots window) in
    subst (λ (x : Controller). HasTaken rules late notes tag (record x { picked = x.picked - 1 }) c.put_out.new.slots) (sym c.pop_window.ensures.put)
    (subst (λ (new : List Slot). HasTaken rules late notes tag (took self (shorter slots window)) new) (sym (its_pool c)) done)

pub returns-clause-front : goal.returns-clause-front
returns-clause-front c was =
    let now = returns-clause-stands c was.rules was.late was.notes was.stands in
    record { rules = was.rules; late = was.late; notes = Taken c.in_ok-tag.tag now.region now.index ∷ was.notes; stands = now.stands }

pub returns-in_err-tag-clause-told : goal.returns-in_err-tag-clause-told
returns-in_err-tag-clause-told c rules late notes s told =
    absurd (take-first_there rules late notes c.args.self.now c.args.slots.now s c.if-self-eq0.false None
    (λ x rest linked. c.in_err-tag.ensures.first ∙ pop-first c.args.slots.now (sq_at c.args.self.now.sqs c.args.self.now.picked_qid).window x rest linked) refl)

pub returns-then-not-has_first-clause-told : goal.returns-then-not-has_first-clause-told
returns-then-not-has_first-clause-told c rules late notes s told =
    absurd (false≢true (sym c.if-not-has_first.true ∙ c.has_first.ensures
    ∙ lt-ltb _ _ (take-first_inside rules late notes c.args.self.now c.args.slots.now s c.if-self-eq0.false)))

pub returns-in_err-tag-clause-front : goal.returns-in_err-tag-clause-front
returns-in_err-tag-clause-front c front = subst (λ (self : Controller). IsController self c.args.slots.now) (sym (c.in_err-tag.ensures.none refl)) front
