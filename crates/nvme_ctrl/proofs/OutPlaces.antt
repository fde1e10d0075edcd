-- The places of the commands that the device has, and how many there are.
use Rattle.std.proofs.Common.{◌≡◌, ◌≢◌, ℕ, ◌+◌, ◌≤◌, ◌==◌, ◌&&◌, Bool, true, false, List, [], ◌∷◌, ◌++◌, length, get_or, Option, Some, None, refl, sym, ap, ◌∙◌, subst, arith}
use Rattle.std.specs.Prelude.{is_none}
use Rattle.std.specs.List.{All}
use Rattle.std.proofs.lemmas.Bool.{false_from_ne_true}
use Rattle.std.proofs.lemmas.Option.{same_Some}
use Rattle.std.proofs.lemmas.List.{length-append, length-map}
use Rattle.std.proofs.lemmas.List.Elements.{All-head, All-tail, All-same}
use Rattle.std.proofs.lemmas.List.Sums.{get_or-le-sum_by}
use Rattle.nvme_log.specs.Rules.{FrontRules}
use Rattle.nvme_log.specs.Places.{is_served, is_aborted, one_if}
use Rattle.nvme_log.specs.Completions.{is_posted, outstanding}
use Rattle.nvme_log.specs.declared.place.Place.{Place}
use Rattle.nvme_log.specs.Answers.{Answer}
use Rattle.nvme_log.proofs.Posts.{posts_of-some}
use Rattle.nvme_ctrl_log.specs.Notes.{Notes, logged}
use Rattle.nvme_ctrl_log.specs.Tags.{handed, taken, holder, answer_of, is_out, is_unanswered}
use Rattle.nvme_slots.specs.declared.slot.Slot.{Slot}
use Rattle.nvme_ctrl.specs.declared.state.Controller.{Controller}
use Rattle.nvme_ctrl_content.specs.Standing.{IsInHand, held_upto, hand_of, times_held}
use Rattle.nvme_ctrl.specs.kept.Kept.{Item, IsAmongOuts, StandsAt, places_of, untaken}
use Rattle.nvme_slots.specs.Pool.{AreApart}
use Rattle.nvme_ctrl.proofs.AnswerCall.{among_others}
use Rattle.nvme_ctrl.proofs.OutEntries.{is_two}
use Rattle.nvme_ctrl_content.proofs.OwnStatus.{All-unmap, same_place}
use Rattle.nvme_ctrl_content.proofs.ReadyHand.{All-taken, times_held-append}
use Rattle.nvme_ctrl.proofs.SlotItems.{All-both, All-parts}

-- ---- one place
-- a command that the device has was picked, and was neither aborted nor answered. No completion of it is posted
pub record IsOutPlace (notes : Notes) (p : Place) : Type 0 where
  pub unposted : is_posted (logged notes) p.region p.index ≡ false
  pub unaborted : is_aborted (logged notes) p.region p.index ≡ false
  pub served : is_served (logged notes) p.region p.index ≡ true
  pub unanswered : answer_of notes p.region p.index ≡ None

-- no answer is there
none_is : (o : Option Answer) → is_none o ≡ true → o ≡ None
none_is None e = refl
none_is (Some answer) e = cc e

-- of numbers that are together one if a test passes, the third at least one
only_third : (b : Bool) (x y z : ℕ) → x + y + z ≡ one_if b → 1 ≤ z → (b ≡ true) × (y ≡ 0)
only_third true x y z e l = (refl, omega (arith, e, l))
only_third false x y z e l = absurd (omega (arith, e, l))

module _ (rules : FrontRules) (late : Bool) (notes : Notes) (c : Controller) (slots : List Slot) (s : StandsAt rules late notes c slots) where
  -- ---- the places that are out
  module _ (tag : ℕ) (place : Place) (held : holder notes tag ≡ Some place) (out : is_out notes tag ≡ true) where
    at : IsAmongOuts s.items.outs tag
    at = s.has.outs.all tag (is_two rules late notes c slots s tag place held out)

    of_item : (P : Item → Type 0) → All P s.items.outs → P at.item
    of_item P all = (All-taken P at.before at.item at.after (All-same P (at.before ++ at.item ∷ at.after) s.items.outs (sym at.are) all)).0

    same : at.item.place ≡ place
    same = same_Some at.item.place place (sym (of_item (λ (y : Item). holder notes y.tag ≡ Some y.place) s.tags.held.outs) ∙ ap (holder notes) at.tag ∙ held)

    -- what holds of all that is in hand holds of it
    of_hand : (P : Place → Type 0) → All P s.content.hand → P place
    of_hand P all =
        let items : List Item = s.items.outs ++ untaken c s.content s.items in
        let each : All (λ (y : Item). P y.place) items =
        All-unmap P (λ (y : Item). y.place) items (All-same P (places_of items) s.content.hand (sym s.has.outs.hand_is) all) in
        subst P same (of_item (λ (y : Item). P y.place) (All-parts (λ (y : Item). P y.place) s.items.outs (untaken c s.content s.items) each).0)

    held_once : 1 ≤ times_held place.region place.index (hand_of s.content)
    held_once =
        let here : 1 ≤ times_held place.region place.index s.content.hand =
        of_hand (λ (p : Place). 1 ≤ times_held p.region p.index s.content.hand) (λ j d lt.
        let p : Place = get_or s.content.hand j d in
        let one = get_or-le-sum_by (λ (x : Place). one_if (x.region == p.region && x.index == p.index)) s.content.hand j d lt in
        omega (arith, one, same_place p.region p.index)) in
        omega (arith, here, times_held-append place.region place.index s.content.hand (held_upto s.content.deletion s.content.nsq))

    pub out_is : IsOutPlace notes place
    out_is =
        let only = only_third (is_served (logged notes) place.region place.index) _ _ _ (s.holds.ready.once place.region place.index) held_once in
        record {
          unposted = false_from_ne_true (is_posted (logged notes) place.region place.index) (λ posted.
              let some = posts_of-some (logged notes) place.region place.index posted in
              omega (arith, only.1, some));
          unaborted = (of_hand (IsInHand (logged notes)) s.holds.hand.each).not_aborted;
          served = only.0;
          unanswered = none_is (answer_of notes place.region place.index) (ap (is_unanswered notes) (sym held) ∙ out);
        }

-- ---- how many are out
-- as many tags as are apart are no more than the commands that they stand for
few_among : (tags : List ℕ) (items : List Item) → AreApart tags → All (IsAmongOuts items) tags → length tags ≤ length items
few_among [] items apart among = omega arith
few_among (x ∷ tags) items apart among =
    let at : IsAmongOuts items x = All-head (IsAmongOuts items) x tags among in
    let rest : All (IsAmongOuts (at.before ++ at.after)) tags =
    All-both (λ (y : ℕ). y ≢ x) (IsAmongOuts items) (IsAmongOuts (at.before ++ at.after)) (λ y differs there.
    subst (IsAmongOuts (at.before ++ at.after)) there.tag
    (among_others at.before at.item at.after there.before there.item there.after (sym at.are ∙ there.are) (λ e. differs (sym there.tag ∙ e ∙ at.tag))))
    tags apart.0 (All-tail (IsAmongOuts items) x tags among) in
    let fewer = few_among tags (at.before ++ at.after) apart.1 rest in
    let number : length items ≡ length (at.before ++ at.item ∷ at.after) = ap (λ (its : List Item). length its) at.are in
    omega (arith, fewer, number, length-append at.before (at.item ∷ at.after), length-append at.before at.after)

module _ (rules : FrontRules) (late : Bool) (notes : Notes) (c : Controller) (slots : List Slot) (s : StandsAt rules late notes c slots) where
  -- a tag that is out stands for a command that the device has
  among_outs : (tag : ℕ) → is_out notes tag ≡ true → IsAmongOuts s.items.outs tag
  among_outs tag out = by (holder notes tag) refl where
    by : (o : Option Place) → holder notes tag ≡ o → IsAmongOuts s.items.outs tag
    by None none = absurd (let down : is_out notes tag ≡ false = ap (is_unanswered notes) none in cc (out, down))
    by (Some place) held = s.has.outs.all tag (is_two rules late notes c slots s tag place held out)

  -- the commands that are out, and those that are picked and not taken, are outstanding
  pub few_out_with : (tags : List ℕ) (rest : List Place) → AreApart tags → All (λ (t : ℕ). is_out notes t ≡ true) tags → handed notes ≡ taken notes ++ rest
      → length tags + length rest ≤ outstanding rules (logged notes)
  few_out_with tags rest apart outs handed_are =
      let items : List Item = untaken c s.content s.items in
      let few = few_among tags s.items.outs apart (λ j d lt. among_outs (get_or tags j d) (outs j d lt)) in
      let lengths : length (taken notes ++ places_of items) ≡ length (taken notes ++ rest) = ap (λ (ps : List Place). length ps) (sym s.tags.untaken_are ∙ handed_are) in
      let hand : length s.content.hand ≡ length (places_of (s.items.outs ++ items)) = ap (λ (ps : List Place). length ps) s.has.outs.hand_is in
      omega (
        arith,
        few,
        lengths,
        hand,
        length-append (taken notes) (places_of items),
        length-append (taken notes) rest,
        length-map items (λ (y : Item). y.place),
        length-map (s.items.outs ++ items) (λ (y : Item). y.place),
        length-append s.items.outs items,
        length-append s.content.hand (held_upto s.content.deletion s.content.nsq),
        s.holds.ready.taken,
        s.holds.counts.outstanding_is,
      )

  -- so are those that are out
  pub few_out : (tags : List ℕ) → AreApart tags → All (λ (t : ℕ). is_out notes t ≡ true) tags → length tags ≤ outstanding rules (logged notes)
  few_out tags apart outs = let both = few_out_with tags (places_of (untaken c s.content s.items)) apart outs s.tags.untaken_are in omega (arith, both)
