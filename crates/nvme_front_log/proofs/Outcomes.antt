-- The device of a front answers I/O commands with their outcomes, which say of none that it was aborted.
use Rattle.std.proofs.Common.{◌≡◌, ℕ, ◌==◌, ◌&&◌, ◌||◌, Bool, true, false, not, if◌then◌else◌, List, [], ◌∷◌, ◌++◌, Option, Some, None, refl, sym, ap, ◌∙◌, subst}
use Rattle.std.specs.Prelude.{is_some, slice_get, MatchBool}
use Rattle.std.proofs.lemmas.Bool.{and_parts, or_parts, eqb-true}
use Rattle.nvme_entry.specs.Checks.{Check, first_failed}
use Rattle.nvme_entry.specs.Outcome.{io_checks, outcome_of}
use Rattle.nvme_entry.specs.declared.submission.Sqe.{Sqe}
use Rattle.nvme_entry.specs.declared.completion.Cqe.{Cqe}
use Rattle.nvme_log.specs.declared.event.Event.TheVariants.{Fetch, Post}
use Rattle.nvme_log.specs.Rules.{FrontRules}
use Rattle.nvme_log.specs.Places.{fetched, entry_at, is_aborted}
use Rattle.nvme_log.specs.Answers.{Answer, by_answers}
use Rattle.nvme_log.specs.Account.{PostsOwnBy}
use Rattle.nvme_log.proofs.AbortAnswers.{entry-stays}
use Rattle.nvme_ctrl_log.specs.Notes.{Notes, Logged, Passed, Answered, EachNote, logged}
use Rattle.nvme_ctrl_log.specs.Tags.{is_passed, is_through, answer_of, answer_or, answers}
use Rattle.nvme_ctrl_log.specs.Laws.{NonePassed}
use Rattle.nvme_ctrl_log.specs.Account.{IsLawful, PostsOwn, PostsAnswer}
use Rattle.nvme_own_statuses.specs.Statuses.{SaysNoAbort, IsUnaborted, DeviceKeeps}
use Rattle.nvme_engine.specs.Standing.{AnswersByOutcome}

-- ---- outcomes
abbrev SayNoAbort : List Check → Type 0
SayNoAbort [] = Unit {0}
SayNoAbort (check ∷ checks) = SaysNoAbort check.status × SayNoAbort checks

first_says : (checks : List Check) → SayNoAbort checks → SaysNoAbort (first_failed checks)
first_says [] h = record { unrequested = refl; undeleted = refl }
first_says (check ∷ checks) h = by check.fails (first_says checks h.1) where
  by : (b : Bool) → SaysNoAbort (first_failed checks) → SaysNoAbort (if b then check.status else first_failed checks)
  by true rest = h.0
  by false rest = rest

outcome_says : (entry : Sqe) (sizes : List ℕ) → SaysNoAbort (outcome_of entry sizes)
outcome_says entry sizes =
    first_says (io_checks entry sizes)
    (record { unrequested = refl; undeleted = refl }, (record { unrequested = refl; undeleted = refl }, (record { unrequested = refl; undeleted = refl }, (record { unrequested = refl; undeleted = refl }, (record { unrequested = refl; undeleted = refl }, tt)))))

module _ (rules : FrontRules) where
  -- ---- a completion of an I/O command that wasn't aborted
  has_outcome : (notes : Notes) (c r i : ℕ) (cqe : Cqe) → AnswersByOutcome rules notes → (r == 0) ≡ false → is_aborted (logged notes) r i ≡ false → is_through notes r i ≡ true
      → PostsOwn rules notes (Post c r i cqe) → SaysNoAbort cqe.status
  has_outcome notes c r i cqe by_outcome io whole through own =
      told (subst (λ (b : Bool). MatchBool (b && is_passed notes i) (PostsAnswer rules notes c i cqe) (PostsOwnBy rules (by_answers (answers notes)) (logged notes) (Post c r i cqe))) io own) where
        by : (o : Option Answer) → answer_of notes r i ≡ o → (entry : Sqe) → entry_at (logged notes) r i ≡ Some entry → cqe.status ≡ (answer_or (answer_of notes r i)).status → is_some (answer_of notes r i) ≡ true → SaysNoAbort cqe.status
        by None is entry there status some = absurd (let none : is_some (answer_of notes r i) ≡ false = ap (λ (o : Option Answer). is_some o) is in cc (none, some))
        by (Some answer) is entry there status some =
            let status_is : cqe.status ≡ answer.status = status ∙ ap (λ (o : Option Answer). (answer_or o).status) is in
            let outcome : answer.status ≡ outcome_of entry rules.sizes = ap (λ (a : Answer). a.status) (by_outcome r i entry answer io there is) in
            subst SaysNoAbort (sym (status_is ∙ outcome)) (outcome_says entry rules.sizes)

        told : PostsOwnBy rules (by_answers (answers notes)) (logged notes) (Post c r i cqe) → SaysNoAbort cqe.status
        told it =
            by (answer_of notes r i) refl it.2.entry it.2.is_there (it.2.status ∙ rw (whole, io) refl) (subst (λ (b : Bool). (b || is_some (answer_of notes r i)) ≡ true) whole through)

  -- ---- earlier notes
  -- a command is answered once, so its answer was the same before
  answered_before : (notes : Notes) (region index : ℕ) (answer : Answer) → IsLawful rules notes (Answered region index answer) → AnswersByOutcome rules (Answered region index answer ∷ notes) → AnswersByOutcome rules notes
  answered_before notes region index answer h by_outcome r i entry given io there is = by_outcome r i entry given io there (by (region == r && index == i) refl) where
    by : (b : Bool) → (region == r && index == i) ≡ b → (if b then Some answer else answer_of notes r i) ≡ Some given
    by false e = is
    by true e =
        let both = and_parts (region == r) (index == i) e in
        let none : answer_of notes r i ≡ None =
        subst (λ (k : ℕ). answer_of notes r k ≡ None) (eqb-true index i both.1) (subst (λ (k : ℕ). answer_of notes k index ≡ None) (eqb-true region r both.0) h.first) in
        absurd (cc (none, is))

  fetched_before : (notes : Notes) (region index : ℕ) (fetch : Sqe) → AnswersByOutcome rules (Logged (Fetch region index fetch) ∷ notes) → AnswersByOutcome rules notes
  fetched_before notes region index fetch by_outcome r i entry given io there is = by_outcome r i entry given io (by (region == r) there) is where
    by : (b : Bool) → slice_get (fetched (logged notes) r) i ≡ Some entry → slice_get (if b then fetched (logged notes) r ++ fetch ∷ [] else fetched (logged notes) r) i ≡ Some entry
    by true at = entry-stays (fetched (logged notes) r) (fetch ∷ []) i entry at
    by false at = at

  -- ---- all notes
  -- what is the device's and wasn't passed on is of an I/O command
  of_io : (r : ℕ) (passed aborted : Bool) → ((not (r == 0) || passed) && not aborted) ≡ true → passed ≡ false → ((r == 0) ≡ false) × (aborted ≡ false)
  of_io r passed aborted given none = by (r == 0) passed aborted given none where
    by : (a b d : Bool) → ((not a || b) && not d) ≡ true → b ≡ false → (a ≡ false) × (d ≡ false)
    by true true d h n = cc n
    by true false d h n = cc h
    by false b true h n = cc h
    by false b false h n = (refl, refl)

  pub device_keeps : (notes : Notes) → EachNote (IsLawful rules) notes → NonePassed notes → AnswersByOutcome rules notes → DeviceKeeps rules IsUnaborted notes
  device_keeps [] h none by_outcome = tt
  device_keeps (Logged (Post c r i cqe) ∷ notes) h none by_outcome =
      (λ given q into. let io = of_io r (is_passed notes i) (is_aborted (logged notes) r i) given (none i) in has_outcome notes c r i cqe by_outcome io.0 io.1 h.0.posts_what_is_through h.0.posts_own, device_keeps notes h.1 none by_outcome)
  device_keeps (Logged (Fetch r i entry) ∷ notes) h none by_outcome = (tt, device_keeps notes h.1 none (fetched_before notes r i entry by_outcome))
  device_keeps (Answered r i answer ∷ notes) h none by_outcome = (tt, device_keeps notes h.1 none (answered_before notes r i answer h.0 by_outcome))
  device_keeps (Passed i ∷ notes) h none by_outcome = (tt, device_keeps notes h.1 (λ k. (or_parts (i == k) (is_passed notes k) (none k)).1) by_outcome)
  device_keeps (note ∷ notes) h none by_outcome = (tt, device_keeps notes h.1 none by_outcome)
