-- The entry in the slot of a command that the device has, and what the caller keeps with it.
use Rattle.std.proofs.Common.{◌≡◌, ℕ, ◌<◌, ◌++◌, ◌∷◌, Bool, true, false, List, length, Some, sym, ap, ◌∙◌, subst, inl, inr}
use Rattle.std.proofs.lemmas.Bool.{cases_eq}
use Rattle.std.proofs.lemmas.Option.{same_Some}
use Rattle.std.proofs.lemmas.List.Elements.{All-same}
use Rattle.nvme_entry.specs.declared.submission.Sqe.{Sqe}
use Rattle.nvme_log.specs.Rules.{FrontRules}
use Rattle.nvme_log.specs.Places.{entry_at}
use Rattle.nvme_log.specs.declared.place.Place.{Place}
use Rattle.nvme_ctrl_log.specs.Notes.{Notes, logged}
use Rattle.nvme_ctrl_log.specs.Tags.{holder, is_out, cookie_of}
use Rattle.nvme_slots.specs.declared.slot.Slot.{Slot}
use Rattle.nvme_ctrl.specs.declared.state.Controller.{Controller}
use Rattle.std.specs.List.{All}
use Rattle.nvme_ctrl.specs.kept.Kept.{Item, HasEntry, HasCookie, IsAmongOuts, IsOutIn, StandsAt, untaken}
use Rattle.nvme_slots.specs.Pool.{slot_at}
use Rattle.nvme_ctrl.proofs.AnswerCall.{other_is_not_out}
use Rattle.nvme_ctrl.proofs.SlotItems.{All-parts}
use Rattle.nvme_ctrl_content.proofs.ReadyHand.{All-taken}

-- a tag that is out isn't one that isn't
never_both : (b : Bool) → b ≡ true → b ≡ false → ⊥
never_both b up down = let both : true ≡ false = sym up ∙ down in cc

module _ (rules : FrontRules) (late : Bool) (notes : Notes) (c : Controller) (slots : List Slot) (s : StandsAt rules late notes c slots)
    (tag : ℕ) (place : Place) (held : holder notes tag ≡ Some place) where
  -- where the device has the command
  module _ (state : (slot_at slots tag).state ≡ 2) where
    at : IsAmongOuts s.items.outs tag
    at = s.has.outs.all tag state

    -- what holds of all that it has holds of this
    of_it : (P : Item → Type 0) → All P s.items.outs → P at.item
    of_it P all = (All-taken P at.before at.item at.after (All-same P (at.before ++ at.item ∷ at.after) s.items.outs (sym at.are) all)).0

    same : at.item.place ≡ place
    same = same_Some at.item.place place (sym (of_it (λ (y : Item). holder notes y.tag ≡ Some y.place) s.tags.held.outs) ∙ ap (holder notes) at.tag ∙ held)

    entry_in_slot : entry_at (logged notes) place.region place.index ≡ Some (slot_at slots tag).entry
    entry_in_slot =
        let entry = of_it (HasEntry (logged notes)) (All-parts (HasEntry (logged notes)) s.items.outs (untaken c s.content s.items) s.tags.hand_entries).0 in
        let there : (slot_at slots tag).entry ≡ at.item.entry = ap (λ (t : ℕ). (slot_at slots t).entry) (sym at.tag) ∙ (of_it (IsOutIn s.content.sq_id slots) s.has.outs.items).entry in
        subst (λ (p : Place). entry_at (logged notes) p.region p.index ≡ Some (slot_at slots tag).entry) same (entry ∙ ap (λ (e : Sqe). Some e) (sym there))

    queue_in_slot : s.content.sq_id place.region ≡ Some (slot_at slots tag).sqid
    queue_in_slot = ap (λ (p : Place). s.content.sq_id p.region) (sym same) ∙ (of_it (IsOutIn s.content.sq_id slots) s.has.outs.items).queue ∙ ap (λ (t : ℕ). Some (slot_at slots t).sqid) at.tag

    in_pool : tag < length slots
    in_pool = subst (λ (t : ℕ). t < length slots) at.tag (of_it (IsOutIn s.content.sq_id slots) s.has.outs.items).inside

    cookie_in_slot : cookie_of notes place.region place.index ≡ Some (slot_at slots tag).cookie
    cookie_in_slot = subst (λ (p : Place). cookie_of notes p.region p.index ≡ Some (slot_at slots tag).cookie) same
        (of_it (HasCookie notes slots) s.tags.cookies.outs ∙ ap (λ (t : ℕ). Some (slot_at slots t).cookie) at.tag)

  -- so for a tag that is out
  pub is_two : is_out notes tag ≡ true → (slot_at slots tag).state ≡ 2
  is_two out = elim (cases_eq (slot_at slots tag).state 2) [
    | inl state ↦ state
    | inr other ↦ absurd (never_both (is_out notes tag) out (other_is_not_out rules late notes c slots s tag other))
  ]

  pub out_entry : is_out notes tag ≡ true → entry_at (logged notes) place.region place.index ≡ Some (slot_at slots tag).entry
  out_entry out = entry_in_slot (is_two out)

  pub out_cookie : is_out notes tag ≡ true → cookie_of notes place.region place.index ≡ Some (slot_at slots tag).cookie
  out_cookie out = cookie_in_slot (is_two out)

  pub out_queue : is_out notes tag ≡ true → s.content.sq_id place.region ≡ Some (slot_at slots tag).sqid
  out_queue out = queue_in_slot (is_two out)

  pub out_inside : is_out notes tag ≡ true → tag < length slots
  out_inside out = in_pool (is_two out)
