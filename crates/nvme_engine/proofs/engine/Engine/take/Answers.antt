-- What is taken is the first place that is to be taken.
use Rattle.std.proofs.Common.{◌≡◌, ℕ, List, ◌∷◌, length, refl, append-nil, sym, ap, ◌∙◌, subst}
use Rattle.nvme_ctrl_log.specs.Notes.{Taken}
use Rattle.nvme_ctrl_log.specs.Tags.{taken}
use Rattle.nvme_ctrl.specs.Standing.{Stands}
use Rattle.nvme_slots.specs.declared.slot.Slot.{Slot}
use Rattle.nvme_engine.specs.declared.engine.Engine.{Engine}
use Rattle.nvme_engine.proofs.Calls.{written, leaves, stands_written, written_back}
use Rattle.nvme_engine.proofs.Takes.{took_none, none_left, has_taken}
use Rattle.nvme_engine.proofs.engine.Engine.take.Goals as goal

pub returns-in_err-tag-clause-none : goal.returns-in_err-tag-clause-none
returns-in_err-tag-clause-none c rules late notes s =
    let left = c.in_err-tag.ensures.none refl in
    (c.from_residual.ensures, written_back c.args.self.now c.take.new.self c.take.new.slots left.0 (left.1 ∙ c.deref_mut.ensures.value))

pub returns-in_err-tag-clause-some : goal.returns-in_err-tag-clause-some
returns-in_err-tag-clause-some c rules late notes p rest s =
    let e : Engine = c.args.self.now in
    absurd (none_left notes p rest s.untaken
    (c.in_err-tag.ensures.told s.their s.their_late notes (subst (λ (xs : List Slot). Stands s.their s.their_late notes e.controller xs) (sym c.deref_mut.ensures.value) s.stands) refl
    ∙ sym (append-nil (taken notes))))

pub returns-clause-none : goal.returns-clause-none
returns-clause-none c rules late notes s =
    let e : Engine = c.args.self.now in
    let t = c.in_ok-tag.ensures.stands s.their s.their_late notes (subst (λ (xs : List Slot). Stands s.their s.their_late notes e.controller xs) (sym c.deref_mut.ensures.value) s.stands) in
    absurd (took_none s.their s.their_late notes c.in_ok-tag.tag t.region t.index c.take.new.self c.take.new.slots s.untaken t.stands)

pub returns-clause-stands : goal.returns-clause-stands
returns-clause-stands c rules late notes p rest s =
    let e : Engine = c.args.self.now in
    let tag : ℕ = c.in_ok-tag.tag in
    let t = c.in_ok-tag.ensures.stands s.their s.their_late notes (subst (λ (xs : List Slot). Stands s.their s.their_late notes e.controller xs) (sym c.deref_mut.ensures.value) s.stands) in
    let size : length c.take.new.slots ≡ length e.slots.items = c.take.ensures.size ∙ ap (λ (xs : List Slot). length xs) c.deref_mut.ensures.value in
    let now = stands_written s.their s.their_late (Taken tag t.region t.index ∷ notes) e c.take.new.self c.take.new.slots size t.stands in
    let seen : Stands s.their s.their_late (Taken tag t.region t.index ∷ notes) c.take.new.self c.as_slice-slots.result.now =
    subst (λ (xs : List Slot). Stands s.their s.their_late (Taken tag t.region t.index ∷ notes) c.take.new.self xs) (sym c.as_slice-slots.ensures.value) now in
    has_taken rules late notes p rest e s tag t.region t.index (written e c.take.new.self c.take.new.slots)
    (leaves e c.take.new.self c.take.new.slots c.take.ensures.depths c.take.ensures.own size) now t.unanswered t.free c.cookie.result c.entry.result
    (c.cookie.ensures.out s.their s.their_late (Taken tag t.region t.index ∷ notes) seen)
    (c.entry.ensures.out s.their s.their_late (Taken tag t.region t.index ∷ notes) seen)
