-- Completions are posted in the order in which they became ready.
use Rattle.std.proofs.Common.{◌≡◌, ℕ, ◌<◌, ◌==◌, ◌&&◌, Bool, true, false, if◌then◌else◌, List, [], ◌∷◌, ◌++◌, length, Some, refl, sym, ◌∙◌, subst, arith, inl, inr}
use Rattle.std.specs.Prelude.{slice_get}
use Rattle.std.proofs.lemmas.Bool.{cases_eq, eq-eqb, eqb-true, or_right}
use Rattle.std.proofs.lemmas.Option.{same_Some}
use Rattle.std.proofs.lemmas.List.{length-append}
use Rattle.nvme_log.specs.declared.event.Event.TheVariants.{Abort, Post}
use Rattle.nvme_log.specs.declared.place.Place.{Place}
use Rattle.nvme_log.specs.Dispatches.{place_at}
use Rattle.nvme_log.specs.Rules.{FrontRules}
use Rattle.nvme_log.specs.Completions.{is_posted, posted_to}
use Rattle.nvme_ctrl_log.specs.Notes.{Notes, Logged, Answered, EachNote, logged}
use Rattle.nvme_ctrl_log.specs.Ready.{posts_to, ready_in}
use Rattle.nvme_ctrl_log.specs.Account.{IsLawful}
use Rattle.nvme_ctrl_log.specs.Laws.{ReadyArePostedInTurn}
use Rattle.nvme_ctrl_log.proofs.AbortTargets.{slice_get-append_left}

-- a place that became ready as the nth stays the nth
pushed : (b : Bool) (xs : List Place) (x p : Place) (n : ℕ) → slice_get xs n ≡ Some p → slice_get (if b then xs ++ x ∷ [] else xs) n ≡ Some p
pushed true xs x p n h = slice_get-append_left xs (x ∷ []) n p h
pushed false xs x p n h = h

stays_nth : (later before : Notes) (c n : ℕ) (p : Place) → slice_get (ready_in before c) n ≡ Some p → slice_get (ready_in (later ++ before) c) n ≡ Some p
stays_nth [] before c n p h = h
stays_nth (Answered r i answer ∷ later) before c n p h =
    pushed (posts_to (logged (later ++ before)) r c) (ready_in (later ++ before) c) (place_at r i) p n (stays_nth later before c n p h)
stays_nth (Logged (Abort r i) ∷ later) before c n p h =
    pushed (posts_to (logged (later ++ before)) r c) (ready_in (later ++ before) c) (place_at r i) p n (stays_nth later before c n p h)
stays_nth (note ∷ later) before c n p h = stays_nth later before c n p h

-- the nth post is that of the nth place that became ready
record IsNthPosted (notes : Notes) (c n : ℕ) : Type 0 where
  pub place : Place
  pub at : slice_get (ready_in notes c) n ≡ Some place
  pub posted : is_posted (logged notes) place.region place.index ≡ true

nth_posted : (rules : FrontRules) (notes : Notes) → EachNote (IsLawful rules) notes → (c n : ℕ) → n < length (posted_to (logged notes) c) → IsNthPosted notes c n
nth_posted rules [] h c n lt = absurd (omega (arith, lt))
nth_posted rules (Answered r i answer ∷ notes) h c n lt =
    let was = nth_posted rules notes h.1 c n lt in
    record { place = was.place; at = pushed (posts_to (logged notes) r c) (ready_in notes c) (place_at r i) was.place n was.at; posted = was.posted }
nth_posted rules (Logged (Abort r i) ∷ notes) h c n lt =
    let was = nth_posted rules notes h.1 c n lt in
    record { place = was.place; at = pushed (posts_to (logged notes) r c) (ready_in notes c) (place_at r i) was.place n was.at; posted = was.posted }
nth_posted rules (Logged (Post x r i cqe) ∷ notes) h c n lt = by (nth_posted rules notes h.1 c n) (x == c) refl lt where
  earlier : IsNthPosted notes c n → IsNthPosted (Logged (Post x r i cqe) ∷ notes) c n
  earlier was =
      record { place = was.place; at = was.at; posted = or_right (r == was.place.region && i == was.place.index) (is_posted (logged notes) was.place.region was.place.index) was.posted }

  by : (n < length (posted_to (logged notes) c) → IsNthPosted notes c n) → (b : Bool) → (x == c) ≡ b → n < length (if b then posted_to (logged notes) c ++ cqe ∷ [] else posted_to (logged notes) c) → IsNthPosted (Logged (Post x r i cqe) ∷ notes) c n
  by was false e below = earlier (was below)
  by was true e below = elim (cases_eq n (length (posted_to (logged notes) c))) [
    | inl last ↦ record {
      place = place_at r i;
      at = subst (λ (m : ℕ). slice_get (ready_in notes c) m ≡ Some (place_at r i)) (sym last)
          (subst (λ (z : ℕ). slice_get (ready_in notes z) (length (posted_to (logged notes) z)) ≡ Some (place_at r i)) (eqb-true x c e) h.0.posts_in_order);
      posted = rw (eq-eqb r r refl, eq-eqb i i refl) refl;
    }
    | inr other ↦ (let long = length-append (posted_to (logged notes) c) (cqe ∷ []) in earlier (was (omega (arith, below, other, long))))
  ]
nth_posted rules (note ∷ notes) h c n lt =
    let was = nth_posted rules notes h.1 c n lt in
    record { place = was.place; at = was.at; posted = was.posted }

pub ready_are_posted_in_turn : ReadyArePostedInTurn
ready_are_posted_in_turn rules later before c n r i a at lt =
    let was = nth_posted rules (later ++ before) a.each c n lt in
    let same : was.place ≡ place_at r i = same_Some was.place (place_at r i) (sym was.at ∙ stays_nth later before c n (place_at r i) at) in
    subst (λ (p : Place). is_posted (logged (later ++ before)) p.region p.index ≡ true) same was.posted
