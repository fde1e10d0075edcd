-- A place whose completion was posted was aborted, or its command was answered.
use Rattle.std.proofs.Common.{◌≡◌, ℕ, ◌==◌, ◌&&◌, ◌||◌, Bool, true, false, [], ◌∷◌, Option, Some, None, refl, ap, ◌∙◌, subst, ◌⊎◌, inl, inr}
use Rattle.std.proofs.lemmas.Bool.{eqb-true}
use Rattle.nvme_log.specs.declared.event.Event.TheVariants.{Abort, Post}
use Rattle.nvme_log.specs.Rules.{FrontRules}
use Rattle.nvme_log.specs.Places.{is_aborted}
use Rattle.nvme_log.specs.declared.place.Place.{Place}
use Rattle.nvme_log.specs.Answers.{Answer}
use Rattle.nvme_log.specs.Completions.{is_posted}
use Rattle.nvme_log.specs.Dispatches.{place_at}
use Rattle.std.specs.Prelude.{is_some}
use Rattle.nvme_ctrl_log.specs.Notes.{Notes, Note, Logged, Tail, Head, Kept, Passed, Taken, Answered, Flagged, Held, Classed, EachNote, logged}
use Rattle.nvme_ctrl_log.specs.Tags.{answer_of, is_through}
use Rattle.nvme_ctrl_log.specs.Account.{IsLawful}

-- a place was aborted, or its command was answered
pub record HasAnswer (notes : Notes) (place : Place) : Type 0 where
  pub answer : Answer
  pub answered : answer_of notes place.region place.index ≡ Some answer

abbrev pub IsServed : Notes → Place → Type 0
IsServed notes place = (is_aborted (logged notes) place.region place.index ≡ true) ⊎ HasAnswer notes place

pub or-right : (a b : Bool) → b ≡ true → (a || b) ≡ true
or-right true b e = refl
or-right false b e = e

pub both : (a b : Bool) → (a && b) ≡ true → (a ≡ true) × (b ≡ true)
both true true h = (refl, refl)
both true false h = cc h
both false b h = cc h

-- so it stays
pub served-on : (note : Note) (notes : Notes) (place : Place) → IsServed notes place → IsServed (note ∷ notes) place
served-on (Logged (Abort r i)) notes place (inl h) = inl (or-right (r == place.region && i == place.index) (is_aborted (logged notes) place.region place.index) h)
served-on (Logged e) notes place (inl h) = inl h
served-on (Tail r slot) notes place (inl h) = inl h
served-on (Head c slot) notes place (inl h) = inl h
served-on (Kept r i cookie) notes place (inl h) = inl h
served-on (Passed i) notes place (inl h) = inl h
served-on (Taken tag r i) notes place (inl h) = inl h
served-on (Flagged r i flags) notes place (inl h) = inl h
served-on (Held q on) notes place (inl h) = inl h
served-on (Classed q class) notes place (inl h) = inl h
served-on (Answered r i answer) notes place (inl h) = inl h
served-on (Answered r i answer) notes place (inr h) = inr (by (r == place.region && i == place.index) refl) where
  by : (b : Bool) → (r == place.region && i == place.index) ≡ b → HasAnswer (Answered r i answer ∷ notes) place
  by true e = record { answer = answer; answered = rw e refl }
  by false e = record { answer = h.answer; answered = rw e h.answered }
served-on (Logged e) notes place (inr h) = inr (record { answer = h.answer; answered = h.answered })
served-on (Tail r slot) notes place (inr h) = inr (record { answer = h.answer; answered = h.answered })
served-on (Head c slot) notes place (inr h) = inr (record { answer = h.answer; answered = h.answered })
served-on (Kept r i cookie) notes place (inr h) = inr (record { answer = h.answer; answered = h.answered })
served-on (Passed i) notes place (inr h) = inr (record { answer = h.answer; answered = h.answered })
served-on (Taken tag r i) notes place (inr h) = inr (record { answer = h.answer; answered = h.answered })
served-on (Flagged r i flags) notes place (inr h) = inr (record { answer = h.answer; answered = h.answered })
served-on (Held q on) notes place (inr h) = inr (record { answer = h.answer; answered = h.answered })
served-on (Classed q class) notes place (inr h) = inr (record { answer = h.answer; answered = h.answered })

-- what is through was aborted or answered
pub through-served : (notes : Notes) (r i : ℕ) → is_through notes r i ≡ true → IsServed notes (place_at r i)
through-served notes r i h = by (is_aborted (logged notes) r i) (answer_of notes r i) refl refl h where
  by : (a : Bool) (o : Option Answer) → is_aborted (logged notes) r i ≡ a → answer_of notes r i ≡ o → (a || is_some o) ≡ true → IsServed notes (place_at r i)
  by true o e f k = inl e
  by false (Some answer) e f k = inr (record { answer = answer; answered = f })
  by false None e f k = cc k

pub posted-served : (rules : FrontRules) (notes : Notes) → EachNote (IsLawful rules) notes → (r i : ℕ) → is_posted (logged notes) r i ≡ true → IsServed notes (place_at r i)
posted-served rules [] h r i posted = cc posted
posted-served rules (Logged (Post c region index cqe) ∷ notes) h r i posted =
    served-on (Logged (Post c region index cqe)) notes (place_at r i) (by (region == r && index == i) refl posted (posted-served rules notes h.1 r i))
  where
    by : (b : Bool) → (region == r && index == i) ≡ b → (b || is_posted (logged notes) r i) ≡ true → (is_posted (logged notes) r i ≡ true → IsServed notes (place_at r i)) → IsServed notes (place_at r i)
    by true e k earlier =
        let same = both (region == r) (index == i) e in
        let is : place_at region index ≡ place_at r i = ap (λ (x : ℕ). place_at x index) (eqb-true region r same.0) ∙ ap (place_at r) (eqb-true index i same.1) in
        subst (IsServed notes) is (through-served notes region index h.0.posts_what_is_through)
    by false e k earlier = earlier k
posted-served rules (note ∷ notes) h r i posted = served-on note notes (place_at r i) (posted-served rules notes h.1 r i posted)
