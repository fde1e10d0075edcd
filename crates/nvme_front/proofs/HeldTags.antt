-- The tags that are out: their commands are of I/O queues and not through, and no two stand for one place.
use Rattle.std.proofs.Common.{◌≡◌, ◌≢◌, ℕ, ◌≤◌, ◌==◌, ◌&&◌, ◌||◌, Bool, true, false, List, ◌∷◌, ◌++◌, length, Some, refl, sym, ap, ◌∙◌, subst, arith}
use Rattle.std.specs.Prelude.{is_some}
use Rattle.std.specs.List.{All}
use Rattle.std.proofs.lemmas.Option.{same_Some}
use Rattle.std.proofs.lemmas.List.{append-nil}
use Rattle.std.proofs.lemmas.List.Elements.{All-same}
use Rattle.nvme_entry.specs.Status.{success}
use Rattle.nvme_log.specs.declared.place.Place.{Place}
use Rattle.nvme_log.specs.Limits.{max_outstanding}
use Rattle.nvme_log.specs.Rules.{FrontRules}
use Rattle.nvme_ctrl_log.specs.Notes.{Notes}
use Rattle.nvme_ctrl_log.specs.Tags.{handed, taken, holder, is_out, is_through}
use Rattle.nvme_ctrl.specs.kept.Kept as ctrl
use Rattle.nvme_ctrl.specs.kept.Kept.{Item, IsAmongOuts}
use Rattle.nvme_slots.specs.declared.slot.Slot.{Slot}
use Rattle.nvme_ctrl.specs.declared.state.Controller.{Controller}
use Rattle.nvme_slots.specs.Pool.{AreApart}
use Rattle.nvme_ctrl.proofs.AnswerCall.{among_others}
use Rattle.nvme_ctrl.proofs.AnsweredPlaces.{IsOther, others_out}
use Rattle.nvme_ctrl.proofs.OutEntries.{is_two}
use Rattle.nvme_ctrl.proofs.OutPlaces.{IsOutPlace, out_is, few_out}
use Rattle.nvme_ctrl.proofs.Passed.{held_is_devices, devices_passed}
use Rattle.nvme_ctrl_content.proofs.ReadyHand.{All-taken}
use Rattle.nvme_engine.specs.Standing.{StandsAt}
use Rattle.nvme_engine.specs.declared.engine.Engine.{Engine}

-- a place is this one
abbrev pub same_place : (p q : Place) → Bool
same_place p q = p.region == q.region && p.index == q.index

none_from_both : (b : Bool) → b ≡ (b && false) → b ≡ false
none_from_both true e = cc e
none_from_both false e = refl

-- ---- what a controller that stands has out
module _ (notes : Notes) where
  abbrev Held : Item → Type 0
  Held y = holder notes y.tag ≡ Some y.place

  -- what is among some commands, which their tags stand for, has the place of its tag
  place_is : (items : List Item) → All Held items → (t : ℕ) (p : Place) → holder notes t ≡ Some p → (at : IsAmongOuts items t) → p ≡ at.item.place
  place_is items all t p held at =
      let its : Held at.item = (All-taken Held at.before at.item at.after (All-same Held (at.before ++ at.item ∷ at.after) items (sym at.are) all)).0 in
      same_Some p at.item.place (sym held ∙ ap (holder notes) (sym at.tag) ∙ its)

  -- what is apart from a place is so for each of some commands
  apart_is : (items : List Item) (r i : ℕ) → All (λ (y : Item). IsOther r i y.place) items → (t : ℕ) (at : IsAmongOuts items t) → IsOther r i at.item.place
  apart_is items r i all t at =
      (All-taken (λ (y : Item). IsOther r i y.place) at.before at.item at.after
      (All-same (λ (y : Item). IsOther r i y.place) (at.before ++ at.item ∷ at.after) items (sym at.are) all)).0

-- a tag among some is among those without another
left_among : (items : List Item) (t u : ℕ) → u ≢ t → (at : IsAmongOuts items t) → IsAmongOuts items u → IsAmongOuts (at.before ++ at.after) u
left_among items t u differ at by =
    subst (IsAmongOuts (at.before ++ at.after)) by.tag
    (among_others at.before at.item at.after by.before by.item by.after (sym at.are ∙ by.are) (λ same. differ (sym by.tag ∙ same ∙ at.tag)))

module _ (rules : FrontRules) (late : Bool) (notes : Notes) (c : Controller) (slots : List Slot) (k : ctrl.StandsAt rules late notes c slots) where
  -- its others have other places
  others_apart : (t : ℕ) (at : IsAmongOuts k.items.outs t) → All (λ (y : Item). IsOther at.item.place.region at.item.place.index y.place) (at.before ++ at.after)
  others_apart t at =
      others_out rules late notes c slots k.content k.items k.holds k.numbers k.has k.tags at.before at.item at.after at.are (record { status = success; dw0 = 0 })

  others_held : (t : ℕ) (at : IsAmongOuts k.items.outs t) → All (Held notes) (at.before ++ at.after)
  others_held t at =
      (All-taken (Held notes) at.before at.item at.after (All-same (Held notes) (at.before ++ at.item ∷ at.after) k.items.outs (sym at.are) k.tags.held.outs)).1

  apart_places : (t u : ℕ) (p q : Place) → holder notes t ≡ Some p → is_out notes t ≡ true → holder notes u ≡ Some q → is_out notes u ≡ true → u ≢ t
      → same_place p q ≡ false
  apart_places t u p q held out u_held u_out differ =
      let at : IsAmongOuts k.items.outs t = k.has.outs.all t (is_two rules late notes c slots k t p held out) in
      let by : IsAmongOuts k.items.outs u = k.has.outs.all u (is_two rules late notes c slots k u q u_held u_out) in
      let left : IsAmongOuts (at.before ++ at.after) u = left_among k.items.outs t u differ at by in
      let p_is : p ≡ at.item.place = place_is notes k.items.outs k.tags.held.outs t p held at in
      let q_is : q ≡ left.item.place = place_is notes (at.before ++ at.after) (others_held t at) u q u_held left in
      (λ i. same_place (p_is i) (q_is i)) ∙ apart_is notes (at.before ++ at.after) at.item.place.region at.item.place.index (others_apart t at) u left

-- ---- what is out in an engine that stands at a log
module _ (rules : FrontRules) (late : Bool) (notes : Notes) (e : Engine) (s : StandsAt rules late notes e) where
  -- all that was picked is taken
  pub all_taken : handed notes ≡ taken notes
  all_taken = s.untaken ∙ append-nil (taken notes)

  module _ (t : ℕ) (p : Place) (held : holder notes t ≡ Some p) (out : is_out notes t ≡ true) where
    pub out_place : IsOutPlace notes p
    out_place = out_is s.their s.their_late notes e.controller e.slots.items s.stands t p held out

    -- its command isn't through
    pub not_through : is_through notes p.region p.index ≡ false
    not_through = let it = out_place in (λ i. it.unaborted i || is_some (it.unanswered i))

    -- it is of an I/O queue
    pub of_io : (p.region == 0) ≡ false
    of_io =
        let k = s.stands in
        let passed = devices_passed notes p (held_is_devices notes e.controller k.content k.items k.tags.untaken_are k.tags.passed t p held) in
        none_from_both (p.region == 0) (passed ∙ ap (λ (b : Bool). p.region == 0 && b) (s.plain.none_passed p.index))

  -- two tags that are out don't stand for one place
  pub other_place : (t u : ℕ) (p q : Place) → holder notes t ≡ Some p → is_out notes t ≡ true → holder notes u ≡ Some q → is_out notes u ≡ true → u ≢ t
      → same_place p q ≡ false
  other_place = apart_places s.their s.their_late notes e.controller e.slots.items s.stands

  -- as many commands are out as places are outstanding, at most
  pub few_tags : (tags : List ℕ) → AreApart tags → All (λ (t : ℕ). is_out notes t ≡ true) tags → length tags ≤ max_outstanding
  few_tags tags apart outs =
      let few = few_out s.their s.their_late notes e.controller e.slots.items s.stands tags apart outs in
      omega (arith, few, s.stands.holds.counts.outstanding_is, s.places.few)
