-- The tags of the commands in hand are those that are out, from step to step.
use Rattle.std.proofs.Common.{◌≡◌, ◌≢◌, ℕ, zero, suc, ◌+◌, ◌≤◌, ◌==◌, ◌&&◌, Bool, true, false, List, [], ◌∷◌, length, map, get_or, Option, Some, None, refl, sym, ap, ◌∙◌, subst, arith, inl, inr}
use Rattle.std.specs.Prelude.{is_none, if◌then◌else◌}
use Rattle.std.specs.List.{All, Contains}
use Rattle.std.specs.List.Sorted.{IsPermutation}
use Rattle.std.proofs.lemmas.Bool.{cases_Bool, false_from_ne_true, and_parts, eqb-true, ne_eqb, eq-eqb, true≢false}
use Rattle.std.proofs.lemmas.List.{length-append, length-map}
use Rattle.std.proofs.lemmas.List.Elements.{All-head, All-tail, All-same, All-map, Contains-append_right}
use Rattle.std.proofs.lemmas.List.Sorted.{IsPermutation-map, All-permutation, Contains-permutation}
use Rattle.nvme_entry.specs.declared.completion.Cqe.{Cqe}
use Rattle.nvme_log.specs.declared.event.Event.TheVariants.{Post}
use Rattle.nvme_log.specs.declared.place.Place.{Place}
use Rattle.nvme_log.specs.Answers.{Answer}
use Rattle.nvme_log.specs.Limits.{max_outstanding}
use Rattle.nvme_log.specs.Rules.{FrontRules}
use Rattle.nvme_ctrl_log.specs.Notes.{Notes, Logged, Head, Answered, Flagged}
use Rattle.nvme_ctrl_log.specs.Tags.{holder, answer_of, is_out, is_unanswered, is_through}
use Rattle.nvme_ctrl_log.specs.declared.status_flags.StatusFlags.{StatusFlags}
use Rattle.nvme_slots.specs.Pool.{AreApart}
use Rattle.nvme_ctrl_log.proofs.OutTags.{still_not_out-answered, still_not_out-flagged}
use Rattle.nvme_ctrl_content.proofs.OwnStatus.{All-unmap}
use Rattle.nvme_engine.specs.Standing.{StandsAt}
use Rattle.nvme_engine.specs.declared.engine.Engine.{Engine}
use Rattle.nvme_jobs.specs.Hands.{in_hand}
use Rattle.nvme_jobs.specs.declared.dispatched.Dispatched.{Dispatched}
use Rattle.nvme_jobs.specs.inside.Jobs.{JobsView}
use Rattle.nvme_front.specs.inside.Room.{IsTagged, HoldsTags, tags_in}
use Rattle.nvme_front.proofs.ApartNumbers.{apart-permutation, contains-others}
use Rattle.nvme_front.proofs.HeldTags.{not_through, of_io, other_place, few_tags}

-- a tag that is out is the tag of a command in hand
pub record IsTagOf (notes : Notes) (ds : List Dispatched) (t : ℕ) : Type 0 where
  pub command : Dispatched
  pub among : Contains ds command
  pub tagged : IsTagged notes command
  pub tag : command.tag ≡ t

pub tag_of : (notes : Notes) (j : JobsView) (t : ℕ) → HoldsTags notes j → is_out notes t ≡ true → IsTagOf notes (in_hand j.hands) t
tag_of notes j t h out = of (in_hand j.hands) h.each (h.all t out) where
  of : (ds : List Dispatched) → All (IsTagged notes) ds → Contains (map (λ (d : Dispatched). d.tag) ds) t → IsTagOf notes ds t
  of [] each (i, lt, is) = absurd (omega (arith, lt))
  of (d ∷ ds) each (zero, lt, is) = record { command = d; among = (0, omega arith, refl); tagged = All-head (IsTagged notes) d ds each; tag = is }
  of (d ∷ ds) each (suc i, lt, is) =
      let rest = of ds (All-tail (IsTagged notes) d ds each) (i, omega (arith, lt), is) in
      record { command = rest.command; among = Contains-append_right (d ∷ []) ds rest.command rest.among; tagged = rest.tagged; tag = rest.tag }

-- ---- the same tags are out
-- the same tags are out, and those stand for the same places
pub record KeepsOuts (old new : Notes) : Type 0 where
  pub outs : (t : ℕ) → is_out new t ≡ is_out old t
  pub held : (t : ℕ) → is_out old t ≡ true → holder new t ≡ holder old t

pub tags_kept : (old new : Notes) (j k : JobsView) → KeepsOuts old new → in_hand k.hands ≡ in_hand j.hands → HoldsTags old j → HoldsTags new k
tags_kept old new j k keeps same h = record {
  each = All-same (IsTagged new) (in_hand k.hands) (in_hand j.hands) same (λ i d lt.
      let x : Dispatched = get_or (in_hand j.hands) i d in
      let it = h.each i d lt in
      record { out = keeps.outs x.tag ∙ it.out; held = keeps.held x.tag it.out ∙ it.held });
  apart = subst (λ (ds : List Dispatched). AreApart (map (λ (d : Dispatched). d.tag) ds)) (sym same) h.apart;
  all = λ t out. subst (λ (ds : List Dispatched). Contains (map (λ (d : Dispatched). d.tag) ds) t) (sym same) (h.all t (sym (keeps.outs t) ∙ out));
}

-- the same notes
pub outs_same : (notes : Notes) → KeepsOuts notes notes
outs_same notes = record { outs = λ t. refl; held = λ t out. refl }

-- ---- a completion is posted
module _ (rules : FrontRules) (late : Bool) (notes : Notes) (e : Engine) (s : StandsAt rules late notes e) where
  module _ (x slot r i : ℕ) (cqe : Cqe) (through : is_through notes r i ≡ true) where
    -- the notes afterwards
    abbrev posted_notes : Notes
    posted_notes = Head x slot ∷ Logged (Post x r i cqe) ∷ notes

    -- no tag that is out stands for the place
    posted_not_out : (t : ℕ) (p : Place) → holder notes t ≡ Some p → (p.region == r && p.index == i) ≡ true → is_out notes t ≡ false
    posted_not_out t p held here = false_from_ne_true (is_out notes t) (λ out.
        let parts = and_parts (p.region == r) (p.index == i) here in
        let same : is_through notes p.region p.index ≡ is_through notes r i =
        (λ a. is_through notes (eqb-true p.region r parts.0 a) (eqb-true p.index i parts.1 a)) in
        true≢false (sym through ∙ sym same ∙ not_through rules late notes e s t p held out))

    pub outs_posted : KeepsOuts notes posted_notes
    outs_posted = record {
      outs = λ t. outs t (holder notes t) refl;
      held = λ t out. stays t out (holder notes t) refl;
    } where
      outs : (t : ℕ) (o : Option Place) → holder notes t ≡ o → is_out posted_notes t ≡ is_out notes t
      outs t None none = rw none refl
      outs t (Some p) held = elim (cases_Bool (p.region == r && p.index == i)) [
        | inl here ↦ rw (held, here) (sym (ap (is_unanswered notes) (sym held) ∙ posted_not_out t p held here))
        | inr other ↦ rw (held, other) refl
      ]

      stays : (t : ℕ) → is_out notes t ≡ true → (o : Option Place) → holder notes t ≡ o → holder posted_notes t ≡ holder notes t
      stays t out None none = rw none refl
      stays t out (Some p) held = elim (cases_Bool (p.region == r && p.index == i)) [
        | inl here ↦ absurd (true≢false (sym out ∙ posted_not_out t p held here))
        | inr other ↦ rw (held, other) refl
      ]

  -- ---- an admin command is answered
  -- an answer to an admin command leaves the tags that are out, which are of I/O queues
  pub outs_answered : (index : ℕ) (answer : Answer) → KeepsOuts notes (Answered 0 index answer ∷ notes)
  outs_answered index answer = record { outs = λ t. outs t (holder notes t) refl; held = λ t out. refl } where
    zero_first : (r : ℕ) → (r == 0) ≡ false → (0 == r) ≡ false
    zero_first r io = ne_eqb 0 r (λ e. true≢false (sym (eq-eqb r 0 (sym e)) ∙ io))

    outs : (t : ℕ) (o : Option Place) → holder notes t ≡ o → is_out (Answered 0 index answer ∷ notes) t ≡ is_out notes t
    outs t None none = rw none refl
    outs t (Some p) held = elim (cases_Bool (is_out notes t)) [
      | inl out ↦ ap (is_unanswered (Answered 0 index answer ∷ notes)) held
          ∙ ap (λ (b : Bool). is_none (if b && index == p.index then Some answer else answer_of notes p.region p.index)) (zero_first p.region (of_io rules late notes e s t p held out))
          ∙ ap (is_unanswered notes) (sym held)
      | inr out ↦ still_not_out-answered 0 index answer notes t out ∙ sym out
    ]

  -- ---- the command of a tag is answered
  module _ (d : Dispatched) (tagged : IsTagged notes d) (answer : Answer) (flags : StatusFlags) where
    -- the notes afterwards
    abbrev answered_notes : Notes
    answered_notes = Flagged d.place.region d.place.index flags ∷ Answered d.place.region d.place.index answer ∷ notes

    -- another tag stays as it was
    other_out : (u : ℕ) (q : Place) → holder notes u ≡ Some q → is_out notes u ≡ true → u ≢ d.tag → is_out answered_notes u ≡ true
    other_out u q held out differ =
        ap (is_unanswered answered_notes) held
        ∙ ap (λ (b : Bool). is_none (if b then Some answer else answer_of notes q.region q.index))
        (other_place rules late notes e s d.tag u d.place q tagged.held tagged.out held out differ)
        ∙ ap (is_unanswered notes) (sym held) ∙ out

    -- its own is out no longer
    own_not_out : is_out answered_notes d.tag ≡ false
    own_not_out =
        ap (is_unanswered answered_notes) tagged.held
        ∙ rw (eq-eqb d.place.region d.place.region refl, eq-eqb d.place.index d.place.index refl) refl

    -- what is out was out before
    was_out : (t : ℕ) → is_out answered_notes t ≡ true → is_out notes t ≡ true
    was_out t out = elim (cases_Bool (is_out notes t)) [
      | inl was ↦ was
      | inr not_so ↦ absurd (true≢false (sym out
          ∙ still_not_out-flagged d.place.region d.place.index flags (Answered d.place.region d.place.index answer ∷ notes) t
          (still_not_out-answered d.place.region d.place.index answer notes t not_so)))
    ]

    -- the tags of the others are out
    pub tags_answered : (j k : JobsView) → IsPermutation (in_hand j.hands) (d ∷ in_hand k.hands) → HoldsTags notes j → HoldsTags answered_notes k
    tags_answered j k same h =
        let tag : Dispatched → ℕ = λ (x : Dispatched). x.tag in
        let tags : IsPermutation (tags_in j) (d.tag ∷ tags_in k) = IsPermutation-map tag (in_hand j.hands) (d ∷ in_hand k.hands) same in
        let apart : AreApart (d.tag ∷ tags_in k) = apart-permutation (tags_in j) (d.tag ∷ tags_in k) tags h.apart in
        let others : All (λ (x : Dispatched). x.tag ≢ d.tag) (in_hand k.hands) = All-unmap (λ (n : ℕ). n ≢ d.tag) tag (in_hand k.hands) apart.0 in
        let each : All (IsTagged notes) (in_hand k.hands) =
        All-tail (IsTagged notes) d (in_hand k.hands) (All-permutation (IsTagged notes) (in_hand j.hands) (d ∷ in_hand k.hands) same h.each) in
        record {
          each = λ i x lt.
              let y : Dispatched = get_or (in_hand k.hands) i x in
              record { out = other_out y.tag y.place (each i x lt).held (each i x lt).out (others i x lt); held = (each i x lt).held };
          apart = apart.1;
          all = λ t out.
              contains-others d.tag t (tags_in k) (Contains-permutation (tags_in j) (d.tag ∷ tags_in k) t tags (h.all t (was_out t out)))
              (λ own. true≢false (sym out ∙ ap (is_out answered_notes) own ∙ own_not_out));
        }

-- ---- room
-- no more commands are in hand than may be outstanding
pub few_in_hand : (rules : FrontRules) (late : Bool) (notes : Notes) (e : Engine) (j : JobsView) → StandsAt rules late notes e → HoldsTags notes j
    → length j.hands.running + length j.hands.unhanded ≤ max_outstanding
few_in_hand rules late notes e j s h =
    let outs : All (λ (t : ℕ). is_out notes t ≡ true) (tags_in j) =
    All-map (λ (t : ℕ). is_out notes t ≡ true) (λ (d : Dispatched). d.tag) (in_hand j.hands) (λ i d lt. (h.each i d lt).out) in
    let few = few_tags rules late notes e s (tags_in j) h.apart outs in
    omega (arith, few, length-map (in_hand j.hands) (λ (d : Dispatched). d.tag), length-append j.hands.running j.hands.unhanded)
