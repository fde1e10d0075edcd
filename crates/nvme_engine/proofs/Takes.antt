-- A picked command is taken.
use Rattle.std.proofs.Common.{◌≡◌, ℕ, Bool, true, if◌then◌else◌, List, [], ◌∷◌, ◌++◌, get_or, Some, None, refl, sym, ap, ◌∙◌, subst, eq-eqb, append_assoc}
use Rattle.std.specs.Prelude.{is_none}
use Rattle.std.proofs.lemmas.List.{append_cancel_left}
use Rattle.std.proofs.lemmas.Option.{same_Some, slice_get_within}
use Rattle.nvme_entry.specs.declared.submission.Sqe.{Sqe}
use Rattle.nvme_log.specs.Rules.{FrontRules}
use Rattle.nvme_log.specs.Places.{fetched, entry_at}
use Rattle.nvme_log.specs.declared.place.Place.{Place}
use Rattle.nvme_log.specs.Dispatches.{place_at}
use Rattle.nvme_ctrl_log.specs.Notes.{Notes, Taken, logged}
use Rattle.nvme_ctrl_log.specs.Tags.{handed, taken, holder, is_out, is_unanswered, answer_of, cookie_of}
use Rattle.nvme_ctrl.specs.Standing as ctrl
use Rattle.nvme_ctrl.specs.kept.Kept.{places_of, untaken}
use Rattle.nvme_slots.specs.declared.slot.Slot.{Slot}
use Rattle.nvme_ctrl.specs.declared.state.Controller.{Controller}
use Rattle.nvme_engine.specs.Standing.{StandsBut}
use Rattle.nvme_engine.specs.Calls.{HasTaken}
use Rattle.nvme_engine.specs.declared.engine.Engine.{Engine}
use Rattle.nvme_engine.proofs.Calls.{Leaves, same_pool, same_few}

-- nothing is picked before the first event
none_handed : (notes : Notes) (p : Place) (rest : List Place) → notes ≡ [] → handed notes ≡ taken notes ++ p ∷ rest → ⊥
none_handed notes p rest none is = (
    let none_are : handed notes ≡ [] = ap handed none in
    let more : [] ≡ p ∷ rest = sym none_are ∙ is ∙ ap (λ (ps : List Place). ps ++ p ∷ rest) (ap taken none) in
    cc more)

-- what is taken are the places that are to be taken
took : (rules : FrontRules) (late : Bool) (notes : Notes) (rest : List Place) (tag r i : ℕ) (c : Controller) (slots : List Slot)
    → handed notes ≡ taken notes ++ rest → (t : ctrl.Stands rules late (Taken tag r i ∷ notes) c slots)
    → rest ≡ place_at r i ∷ places_of (untaken c t.content t.items)
took rules late notes rest tag r i c slots was t =
    append_cancel_left (taken notes) rest (place_at r i ∷ places_of (untaken c t.content t.items))
    (sym was ∙ t.tags.untaken_are ∙ append_assoc (taken notes) (place_at r i ∷ []) (places_of (untaken c t.content t.items)))

-- so nothing is where all are taken
pub took_none : (rules : FrontRules) (late : Bool) (notes : Notes) (tag r i : ℕ) (c : Controller) (slots : List Slot)
    → handed notes ≡ taken notes ++ [] → ctrl.Stands rules late (Taken tag r i ∷ notes) c slots → ⊥
took_none rules late notes tag r i c slots was t = (let more = took rules late notes [] tag r i c slots was t in cc more)

-- and something is where some is to be taken
pub none_left : (notes : Notes) (p : Place) (rest : List Place) → handed notes ≡ taken notes ++ p ∷ rest → handed notes ≡ taken notes ++ [] → ⊥
none_left notes p rest some none = (let more : p ∷ rest ≡ [] = append_cancel_left (taken notes) (p ∷ rest) [] (sym some ∙ none) in cc more)

module _ (rules : FrontRules) (late : Bool) (notes : Notes) (p : Place) (rest : List Place) (e : Engine) (s : StandsBut rules late notes (p ∷ rest) e)
    (tag r i : ℕ) (f : Engine) (left : Leaves e f) (t : ctrl.Stands s.their s.their_late (Taken tag r i ∷ notes) f.controller f.slots.items) where
  first : p ≡ place_at r i
  first = ap (λ (ps : List Place). get_or ps 0 p) (took s.their s.their_late notes (p ∷ rest) tag r i f.controller f.slots.items s.untaken t)

  untaken_after : handed notes ≡ (taken notes ++ place_at r i ∷ []) ++ rest
  untaken_after = s.untaken ∙ ap (λ (q : Place). taken notes ++ q ∷ rest) first ∙ sym (append_assoc (taken notes) (place_at r i ∷ []) rest)

  stands_taken : StandsBut rules late (Taken tag r i ∷ notes) rest f
  stands_taken = record {
    their = s.their;
    their_late = s.their_late;
    alike = s.alike;
    in_time = s.in_time;
    stands = t;
    plain = record { none_passed = s.plain.none_passed; none_arranged = s.plain.none_arranged; deletes = s.plain.deletes; alone = s.plain.alone };
    sq_rings = s.sq_rings;
    cq_rings = s.cq_rings;
    served = s.served;
    named = s.named;
    few = same_few e f (logged notes) left s.few;
    begun = λ none. absurd (none_handed notes p rest (s.begun none) s.untaken);
    rung = s.rung;
    read = s.read;
    cookies = s.cookies;
    answers = s.answers;
    untaken = untaken_after;
    lawful = s.lawful;
    places = s.places;
    pool = same_pool e f left s.pool;
    depths = left.depths ∙ s.depths;
    own = left.own ∙ s.own;
  }

  -- the tag stands for it
  held : holder (Taken tag r i ∷ notes) tag ≡ Some (place_at r i)
  held = ap (λ (b : Bool). if b then Some (place_at r i) else holder notes tag) (eq-eqb tag tag refl)

  out : answer_of notes r i ≡ None → is_out (Taken tag r i ∷ notes) tag ≡ true
  out none = ap (is_unanswered (Taken tag r i ∷ notes)) held ∙ ap is_none none

  -- its entry and its index are told
  pub has_taken : answer_of notes r i ≡ None → holder notes tag ≡ None → (index : ℕ) (entry : Sqe)
      → ((place : Place) → holder (Taken tag r i ∷ notes) tag ≡ Some place → is_out (Taken tag r i ∷ notes) tag ≡ true → cookie_of (Taken tag r i ∷ notes) place.region place.index ≡ Some index)
      → ((place : Place) → holder (Taken tag r i ∷ notes) tag ≡ Some place → is_out (Taken tag r i ∷ notes) tag ≡ true → entry_at (logged notes) place.region place.index ≡ Some entry)
      → HasTaken rules late notes p rest (record { tag = tag; index = index; entry = entry }) f
  has_taken unanswered free index entry cookie_is entry_is =
      let at : entry_at (logged notes) r i ≡ Some entry = entry_is (place_at r i) held (out unanswered) in
      let kept : cookie_of notes r i ≡ Some index = cookie_is (place_at r i) held (out unanswered) in
      let same : index ≡ i = same_Some index i (sym kept ∙ s.cookies r i (slice_get_within (fetched (logged notes) r) i entry at)) in
      record {
        index_is = same ∙ ap (λ (q : Place). q.index) (sym first);
        entry_is = ap (λ (q : Place). entry_at (logged notes) q.region q.index) first ∙ at;
        free = free;
        unanswered = ap (λ (q : Place). answer_of notes q.region q.index) first ∙ unanswered;
        stands = subst (λ (q : Place). StandsBut rules late (Taken tag q.region q.index ∷ notes) rest f) (sym first) stands_taken;
      }
