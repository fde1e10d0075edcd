-- The tags of commands that the device has, by submission queue and command identifier.
use Rattle.std.proofs.Common.{◌≡◌, ℕ, ◌<◌, ◌==◌, ◌&&◌, Bool, true, List, length, ◌++◌, ◌∷◌, Option, Some, sym, ap, ◌∙◌}
use Rattle.std.specs.Prelude.{option_map}
use Rattle.std.proofs.lemmas.Bool.{and_parts, eq-eqb, eqb-true}
use Rattle.std.proofs.lemmas.List.Elements.{All-same}
use Rattle.std.proofs.lemmas.Option.{same_Some}
use Rattle.nvme_entry.specs.declared.submission.Sqe.{Sqe}
use Rattle.nvme_log.specs.Rules.{FrontRules}
use Rattle.nvme_log.specs.Queues.{qid_of_region}
use Rattle.nvme_log.specs.declared.place.Place.{Place}
use Rattle.nvme_ctrl_log.specs.Notes.{Notes, logged}
use Rattle.nvme_ctrl_log.specs.Tags.{holder}
use Rattle.nvme_ctrl_log.specs.Calls.{IsTagOf}
use Rattle.nvme_slots.specs.Lookups.{is_found}
use Rattle.nvme_slots.specs.declared.slot.Slot.{Slot}
use Rattle.nvme_ctrl.specs.declared.state.Controller.{Controller}
use Rattle.nvme_ctrl_content.specs.Content.{Attachment}
use Rattle.nvme_ctrl.specs.kept.Kept.{Item, StandsAt}
use Rattle.nvme_slots.specs.Pool.{slot_at}
use Rattle.nvme_ctrl.proofs.AnswerCall.{out_is_out}
use Rattle.nvme_ctrl.proofs.OutEntries.{is_two, out_entry, out_queue, out_inside}
use Rattle.nvme_ctrl_content.proofs.ReadyHand.{All-taken}

module _ (rules : FrontRules) (late : Bool) (notes : Notes) (c : Controller) (slots : List Slot) (s : StandsAt rules late notes c slots) (qid cid tag : ℕ) where
  abbrev slot : Slot
  slot = slot_at slots tag

  -- the queue of a region whose state is kept
  queue_is : (q r : ℕ) → s.content.sq_id r ≡ Some q → qid_of_region (logged notes) r ≡ Some q
  queue_is q r id = s.holds.queues.qid_is r ∙ ap (λ (o : Option Attachment). option_map (λ (a : Attachment). a.qid) o) (s.numbers.sqs.each q r (s.numbers.sqs.ids.lives_are r q id)).opened

  -- the place of a slot whose command the device has
  record IsHeld : Type 0 where
    place : Place
    held : holder notes tag ≡ Some place

  place_held : slot.state ≡ 2 → IsHeld
  place_held state =
      let at = s.has.outs.all tag state in
      let held = (All-taken (λ (y : Item). holder notes y.tag ≡ Some y.place) at.before at.item at.after
      (All-same (λ (y : Item). holder notes y.tag ≡ Some y.place) (at.before ++ at.item ∷ at.after) s.items.outs (sym at.are) s.tags.held.outs)).0 in
      record { place = at.item.place; held = ap (holder notes) (sym at.tag) ∙ held }

  -- a slot that is found has the command's tag
  pub named_tag : is_found slot qid cid ≡ true → IsTagOf notes qid cid tag
  named_tag is =
      let both = and_parts (slot.state == 2) (slot.sqid == qid && slot.entry.cid == cid) is in
      let two = and_parts (slot.sqid == qid) (slot.entry.cid == cid) both.1 in
      let state = eqb-true slot.state 2 both.0 in
      let out = out_is_out rules late notes c slots s tag state in
      let at = place_held state in
      let id = out_queue rules late notes c slots s tag at.place at.held out in
      record {
        out = out;
        place = at.place;
        held = at.held;
        queue = queue_is slot.sqid at.place.region id ∙ ap (λ (q : ℕ). Some q) (eqb-true slot.sqid qid two.0);
        entry = slot.entry;
        is_there = out_entry rules late notes c slots s tag at.place at.held out;
        cid_is = eqb-true slot.entry.cid cid two.1;
      }

  -- and the slot of such a tag is found
  pub tag_named : IsTagOf notes qid cid tag → is_found slot qid cid ≡ true
  tag_named t =
      let state = is_two rules late notes c slots s tag t.place t.held t.out in
      let same = same_Some slot.entry t.entry (sym (out_entry rules late notes c slots s tag t.place t.held t.out) ∙ t.is_there) in
      let named : slot.entry.cid ≡ cid = ap (λ (e : Sqe). e.cid) same ∙ t.cid_is in
      let id = out_queue rules late notes c slots s tag t.place t.held t.out in
      let of_queue : slot.sqid ≡ qid = same_Some slot.sqid qid (sym (queue_is slot.sqid t.place.region id) ∙ t.queue) in
      ap (λ (b : Bool). b && (slot.sqid == qid && slot.entry.cid == cid)) (eq-eqb slot.state 2 state)
      ∙ ap (λ (b : Bool). b && slot.entry.cid == cid) (eq-eqb slot.sqid qid of_queue) ∙ eq-eqb slot.entry.cid cid named

  -- which is there
  pub tag_inside : IsTagOf notes qid cid tag → tag < length slots
  tag_inside t = out_inside rules late notes c slots s tag t.place t.held t.out
