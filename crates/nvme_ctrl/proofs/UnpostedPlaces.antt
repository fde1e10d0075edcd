-- A place that was served and has no completion posted, where the device took all that was picked.
use Rattle.std.proofs.Common.{◌≡◌, ℕ, zero, suc, ◌≤◌, ◌==◌, ◌&&◌, ◌⊎◌, Bool, true, false, List, [], ◌∷◌, ◌++◌, length, Option, Some, None, refl, sym, ap, ◌∙◌, subst, arith, inl, inr}
use Rattle.std.specs.Prelude.{sum_by, is_some, option_map}
use Rattle.std.specs.List.{All}
use Rattle.std.proofs.lemmas.Bool.{cases_Bool, cases_lt, and_parts, eqb-true, or_left, or_right}
use Rattle.std.proofs.lemmas.List.{length-append, length-map}
use Rattle.std.proofs.lemmas.List.Elements.{All-nil, All-cons, All-head, All-tail, All-append, All-map, All-same, All-weaker}
use Rattle.std.proofs.lemmas.List.Sums.{sum_by-cons}
use Rattle.nvme_log.specs.Rules.{FrontRules, Past}
use Rattle.nvme_log.specs.Places.{is_aborted, is_served, one_if}
use Rattle.nvme_log.specs.Completions.{is_posted}
use Rattle.nvme_log.specs.Dispatches.{place_at}
use Rattle.nvme_log.specs.declared.place.Place.{Place}
use Rattle.nvme_log.proofs.Posts.{posts_of-none}
use Rattle.nvme_ctrl_log.specs.Deletions.{deleting}
use Rattle.nvme_ctrl_log.specs.Notes.{Notes, logged}
use Rattle.nvme_ctrl_log.specs.Tags.{handed, taken, holder, answer_of, is_out, is_through}
use Rattle.nvme_slots.specs.declared.slot.Slot.{Slot}
use Rattle.nvme_ctrl.specs.declared.state.Controller.{Controller}
use Rattle.nvme_ctrl_content.specs.Content.{Ready, PendingDelete}
use Rattle.nvme_ctrl_log.specs.Regions.{over_regions}
use Rattle.nvme_ctrl_content.specs.Standing.{times_in, times_held, times_ready, held_by, held_upto, hand_of}
use Rattle.nvme_ctrl.specs.kept.Kept.{Item, ReadyItem, IsOutIn, IsThrough, StandsAt, places_of, untaken}
use Rattle.nvme_ctrl.proofs.AnswerCall.{out_is_out}
use Rattle.nvme_ctrl.proofs.SlotItems.{All-both}

-- the device has the command of a place
pub record IsTagged (notes : Notes) (r i : ℕ) : Type 0 where
  pub tag : ℕ
  pub held : holder notes tag ≡ Some (place_at r i)
  pub out : is_out notes tag ≡ true

-- the command of a place is deleting a queue
pub record IsDeleting (past : Past) (r i : ℕ) : Type 0 where
  pub of_admin : r ≡ 0
  pub region : ℕ
  pub deletes : deleting past region ≡ Some i

-- ---- sums
-- one of some that are counted by their places, of whose place there is one
record IsFound {X : Type 0} (P : X → Type 0) (place : X → Place) (r i : ℕ) : Type 0 where
  item : X
  holds : P item
  region : (place item).region ≡ r
  index : (place item).index ≡ i

found : {X : Type 0} (P : X → Type 0) (place : X → Place) (r i : ℕ) (xs : List X) → All P xs
    → 1 ≤ sum_by (λ (x : X). one_if ((place x).region == r && (place x).index == i)) xs → IsFound P place r i
found P place r i [] all some = absurd (omega (arith, some))
found {X = X} P place r i (x ∷ xs) all some = elim (cases_Bool ((place x).region == r && (place x).index == i)) [
  | inl here ↦
      let parts = and_parts ((place x).region == r) ((place x).index == i) here in
      record { item = x; holds = All-head P x xs all; region = eqb-true (place x).region r parts.0; index = eqb-true (place x).index i parts.1 }
  | inr other ↦
      let none : one_if ((place x).region == r && (place x).index == i) ≡ 0 = ap one_if other in
      let sums = sum_by-cons (λ (y : X). one_if ((place y).region == r && (place y).index == i)) x xs in
      found P place r i xs (All-tail P x xs all) (omega (arith, none, sums, some))
]

-- what is found is that of the place
at_place : {X : Type 0} (Q : ℕ → ℕ → Type 0) (place : X → Place) (r i : ℕ) → IsFound (λ (x : X). Q (place x).region (place x).index) place r i → Q r i
at_place Q place r i f = subst (Q r) f.index (subst (λ (z : ℕ). Q z (place f.item).index) f.region f.holds)

-- a region of a sum that isn't 0
record HasSome (f : ℕ → ℕ) : Type 0 where
  region : ℕ
  some : 1 ≤ f region

some_region : (f : ℕ → ℕ) (n : ℕ) → 1 ≤ over_regions f n → HasSome f
unfolding over_regions
some_region f zero some = absurd (omega (arith, some))
some_region f (suc n) some = elim (cases_lt 0 (f n)) [
  | inl here ↦ record { region = n; some = omega (arith, here) }
  | inr none ↦ some_region f n (omega (arith, some, none))
]

-- a list of no length has nothing
none_in : {X : Type 0} (xs : List X) → length xs ≡ 0 → xs ≡ []
none_in [] e = refl
none_in (x ∷ xs) e = absurd (omega (arith, e))

-- ---- the places
-- a ready completion is through
through_is : (notes : Notes) (t : Ready) → IsThrough notes t → is_through notes t.place.region t.place.index ≡ true
through_is notes t (inl aborted) = or_left (is_aborted (logged notes) t.place.region t.place.index) (is_some (answer_of notes t.place.region t.place.index)) aborted
through_is notes t (inr answered) =
    or_right (is_aborted (logged notes) t.place.region t.place.index) (is_some (answer_of notes t.place.region t.place.index)) (ap (λ (o : Option _). is_some o) answered)

module _ (rules : FrontRules) (late : Bool) (notes : Notes) (c : Controller) (slots : List Slot) (s : StandsAt rules late notes c slots) where
  -- the device has the command of a place in hand, or that deletes a queue
  abbrev IsHeldAt : ℕ → ℕ → Type 0
  IsHeldAt r i = IsTagged notes r i ⊎ IsDeleting (logged notes) r i

  -- what is ready is through
  readies_through : (x : ℕ) → All (λ (t : Ready). is_through notes t.place.region t.place.index ≡ true) (s.content.cq x).ready
  readies_through x =
      All-same (λ (t : Ready). is_through notes t.place.region t.place.index ≡ true) (s.content.cq x).ready _ (s.has.readies.are x)
      (All-map (λ (t : Ready). is_through notes t.place.region t.place.index ≡ true) (λ (y : ReadyItem). y.ready) (s.items.readies x)
      (All-weaker (λ (y : ReadyItem). IsThrough notes y.ready) (λ (y : ReadyItem). is_through notes y.ready.place.region y.ready.place.index ≡ true)
      (λ y h. through_is notes y.ready h) (s.items.readies x) (s.tags.through x)))

  -- where all is taken, what is in hand is out
  hand_tagged : handed notes ≡ taken notes → All (λ (p : Place). IsHeldAt p.region p.index) s.content.hand
  hand_tagged all =
      let items : List Item = untaken c s.content s.items in
      let lengths : length (taken notes ++ places_of items) ≡ length (taken notes) = ap (λ (ps : List Place). length ps) (sym s.tags.untaken_are ∙ all) in
      let none : items ≡ [] =
      none_in items (omega (arith, lengths, length-append (taken notes) (places_of items), length-map items (λ (y : Item). y.place))) in
      All-same (λ (p : Place). IsHeldAt p.region p.index) s.content.hand (places_of (s.items.outs ++ items)) s.has.outs.hand_is
      (All-map (λ (p : Place). IsHeldAt p.region p.index) (λ (y : Item). y.place) (s.items.outs ++ items)
      (All-append (λ (y : Item). IsHeldAt y.place.region y.place.index) s.items.outs items
      (All-both (IsOutIn s.content.sq_id slots) (λ (y : Item). holder notes y.tag ≡ Some y.place) (λ (y : Item). IsHeldAt y.place.region y.place.index)
      (λ y out held. inl (record { tag = y.tag; held = held; out = out_is_out rules late notes c slots s y.tag out.state }))
      s.items.outs s.has.outs.items s.tags.held.outs)
      (All-same (λ (y : Item). IsHeldAt y.place.region y.place.index) items [] none (All-nil (λ (y : Item). IsHeldAt y.place.region y.place.index)))))

  -- the others in hand delete queues
  one_deleting : (r : ℕ) → All (λ (p : Place). IsHeldAt p.region p.index) (held_by (s.content.deletion r))
  one_deleting r = by (s.content.deletion r) refl where
    by : (o : Option PendingDelete) → s.content.deletion r ≡ o → All (λ (p : Place). IsHeldAt p.region p.index) (held_by o)
    by None none = All-nil (λ (p : Place). IsHeldAt p.region p.index)
    by (Some d) is = All-cons (λ (p : Place). IsHeldAt p.region p.index) d.place []
        (inr (record {
          of_admin = (s.holds.deletion.stands r d is).of_admin;
          region = r;
          deletes = s.holds.deletion.place_is r ∙ ap (option_map (λ (x : PendingDelete). x.place.index)) is;
        }))
        (All-nil (λ (p : Place). IsHeldAt p.region p.index))

  all_deleting : (n : ℕ) → All (λ (p : Place). IsHeldAt p.region p.index) (held_upto s.content.deletion n)
  unfolding held_upto
  all_deleting zero = All-nil (λ (p : Place). IsHeldAt p.region p.index)
  all_deleting (suc n) =
      All-append (λ (p : Place). IsHeldAt p.region p.index) (held_upto s.content.deletion n) (held_by (s.content.deletion n)) (all_deleting n) (one_deleting n)

  -- a place that was served and has no completion posted is through, or the device has its command, or that deletes a queue
  pub served_is : handed notes ≡ taken notes → (r i : ℕ) → is_served (logged notes) r i ≡ true → is_posted (logged notes) r i ≡ false
      → (is_through notes r i ≡ true) ⊎ (IsTagged notes r i ⊎ IsDeleting (logged notes) r i)
  served_is all r i served unposted = elim (cases_lt 0 (times_ready s.content r i)) [
    | inl ready ↦
        let at = some_region (λ (x : ℕ). times_in r i (s.content.cq x).ready) s.content.ncq (omega (arith, ready)) in
        inl (at_place (λ (a b : ℕ). is_through notes a b ≡ true) (λ (t : Ready). t.place) r i
        (found (λ (t : Ready). is_through notes t.place.region t.place.index ≡ true) (λ (t : Ready). t.place) r i (s.content.cq at.region).ready
        (readies_through at.region) at.some))
    | inr none ↦
        let once = s.holds.ready.once r i in
        let one : one_if (is_served (logged notes) r i) ≡ 1 = ap one_if served in
        let no_post = posts_of-none (logged notes) r i unposted in
        let held : 1 ≤ times_held r i (hand_of s.content) = omega (arith, once, one, no_post, none) in
        inr (at_place IsHeldAt (λ (p : Place). p) r i
        (found (λ (p : Place). IsHeldAt p.region p.index) (λ (p : Place). p) r i (hand_of s.content)
        (All-append (λ (p : Place). IsHeldAt p.region p.index) s.content.hand (held_upto s.content.deletion s.content.nsq) (hand_tagged all) (all_deleting s.content.nsq))
        held))
  ]
