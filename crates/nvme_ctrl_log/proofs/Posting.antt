-- What a lawful completion says, of a command that was passed on and of any other.
use Rattle.std.proofs.Common.{◌≡◌, ℕ, ◌%◌, ◌==◌, ◌&&◌, ◌||◌, Bool, true, false, length, [], ◌∷◌, Some, refl, sym, ap, ◌∙◌, subst}
use Rattle.std.specs.Prelude.{not, MatchBool}
use Rattle.std.proofs.lemmas.Bool.{eqb-true}
use Rattle.nvme_entry.specs.declared.completion.Cqe.{Cqe}
use Rattle.nvme_log.specs.declared.event.Event.TheVariants.{Post}
use Rattle.nvme_log.specs.Rules.{FrontRules}
use Rattle.nvme_log.specs.Places.{fetched, is_aborted, fate_of, is_waiting}
use Rattle.nvme_log.specs.Completions.{is_posted, posted_to, phase_after}
use Rattle.nvme_log.specs.Answers.{Answer, by_answers}
use Rattle.nvme_log.specs.Account.{PostsOwnBy}
use Rattle.nvme_log.proofs.Turns.{stays}
use Rattle.nvme_ctrl_log.specs.Notes.{Notes, Logged, EachNote, logged}
use Rattle.nvme_ctrl_log.specs.Doorbells.{sq_slots, cq_slots}
use Rattle.nvme_ctrl_log.specs.Tags.{is_passed, is_of_device, answer_of, answers}
use Rattle.nvme_ctrl_log.specs.Account.{IsLawful, PostsOwn, PostsAnswer}
use Rattle.std.proofs.lemmas.Option.{same_Some}
use Rattle.nvme_ctrl_log.proofs.Served.{both}

-- nothing was posted of its command before, and it has the head and the phase tag
pub record IsTold (rules : FrontRules) (notes : Notes) (c r i : ℕ) (cqe : Cqe) : Type 0 where
  pub no_post : is_posted (logged notes) r i ≡ false
  pub served : is_waiting (fate_of (logged notes) r i) ≡ false
  pub sqhd : cqe.sqhd ≡ length (fetched (logged notes) r) % sq_slots rules r
  pub phase : cqe.phase ≡ phase_after (length (posted_to (logged notes) c)) (cq_slots rules c)

pub posts_told : (rules : FrontRules) (notes : Notes) (c r i : ℕ) (cqe : Cqe) → PostsOwn rules notes (Post c r i cqe) → IsTold rules notes c r i cqe
posts_told rules notes c r i cqe = by (r == 0 && is_passed notes i) refl where
  by : (b : Bool) → (r == 0 && is_passed notes i) ≡ b
      → MatchBool b (PostsAnswer rules notes c i cqe) (PostsOwnBy rules (by_answers (answers notes)) (logged notes) (Post c r i cqe)) → IsTold rules notes c r i cqe
  by true e own =
      subst (λ (x : ℕ). IsTold rules notes c x i cqe) (sym (eqb-true r 0 (both (r == 0) (is_passed notes i) e).0))
      (record { no_post = own.all_else.0; served = own.all_else.1; sqhd = own.all_else.2.sqhd; phase = own.all_else.2.phase })
  by false e own = record { no_post = own.0; served = own.1; sqhd = own.2.sqhd; phase = own.2.phase }

-- that of a command of the device's has its answer
pub posts_answer : (rules : FrontRules) (notes : Notes) (c r i : ℕ) (cqe : Cqe) (answer : Answer) → is_of_device notes r i ≡ true → is_aborted (logged notes) r i ≡ false
    → answer_of notes r i ≡ Some answer → PostsOwn rules notes (Post c r i cqe) → (cqe.status ≡ answer.status) × (cqe.dw0 ≡ answer.dw0)
posts_answer rules notes c r i cqe answer of_device unaborted answered = by (r == 0) (is_passed notes i) refl of_device where
  by : (a b : Bool) → (r == 0) ≡ a → (not a || b) ≡ true
      → MatchBool (a && b) (PostsAnswer rules notes c i cqe) (PostsOwnBy rules (by_answers (answers notes)) (logged notes) (Post c r i cqe))
      → (cqe.status ≡ answer.status) × (cqe.dw0 ≡ answer.dw0)
  by true true e of own =
      let same : own.answer ≡ answer = same_Some own.answer answer (sym own.answered ∙ subst (λ (x : ℕ). answer_of notes x i ≡ Some answer) (eqb-true r 0 e) answered) in
      (own.status_is ∙ ap (λ (a : Answer). a.status) same, own.dw0_is ∙ ap (λ (a : Answer). a.dw0) same)
  by true false e of own = cc of
  by false b e of own = (own.2.status ∙ rw (unaborted, e, answered) refl, own.2.dw0 ∙ rw (unaborted, e, answered) refl)

-- a place whose completion was posted doesn't wait
pub posted_done : (rules : FrontRules) (notes : Notes) → EachNote (IsLawful rules) notes → (r i : ℕ) → is_posted (logged notes) r i ≡ true → is_waiting (fate_of (logged notes) r i) ≡ false
posted_done rules [] h r i p = cc p
posted_done rules (Logged (Post c region index cqe) ∷ notes) h r i p =
    stays (Post c region index cqe) (logged notes) r i (by (region == r && index == i) refl p (posted_done rules notes h.1 r i))
  where
    by : (b : Bool) → (region == r && index == i) ≡ b → (b || is_posted (logged notes) r i) ≡ true → (is_posted (logged notes) r i ≡ true → is_waiting (fate_of (logged notes) r i) ≡ false)
        → is_waiting (fate_of (logged notes) r i) ≡ false
    by true e k earlier =
        let same = both (region == r) (index == i) e in
        subst (λ (z : ℕ). is_waiting (fate_of (logged notes) r z) ≡ false) (eqb-true index i same.1)
        (subst (λ (z : ℕ). is_waiting (fate_of (logged notes) z index) ≡ false) (eqb-true region r same.0) (posts_told rules notes c region index cqe h.0.posts_own).served)
    by false e k earlier = earlier k
posted_done rules (Logged e ∷ notes) h r i p = stays e (logged notes) r i (posted_done rules notes h.1 r i p)
posted_done rules (note ∷ notes) h r i p = posted_done rules notes h.1 r i p
