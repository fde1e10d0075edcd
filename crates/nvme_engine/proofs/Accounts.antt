-- The events at which an engine stands are accounted: its I/O commands are answered with their outcomes.
use Rattle.std.proofs.Common.{◌≡◌, ℕ, ◌≤◌, true, false, List, length, Some, refl, sym, ap, ◌∙◌, subst, inl, inr, true≢false, ne_eqb}
use Rattle.std.proofs.lemmas.Option.{slice_get_cases}
use Rattle.nvme_entry.specs.declared.submission.Sqe.{Sqe}
use Rattle.nvme_arbiter.specs.Lawful.{IsLawfulRun}
use Rattle.nvme_log.specs.Histories.{arbitration_of}
use Rattle.nvme_log.specs.Rules.{FrontRules, Past, Each}
use Rattle.nvme_log.specs.Places.{fetched, fate_of, is_picked, is_aborted, entry_at}
use Rattle.nvme_log.specs.Completions.{is_posted, posted_to}
use Rattle.nvme_log.specs.Answers.{outcome_at, outcomes}
use Rattle.nvme_log.specs.Dispatches.{place_at}
use Rattle.nvme_log.specs.Account as log
use Rattle.nvme_log.specs.Account.{LeavesPlaces}
use Rattle.nvme_log.specs.AnswerLaws.{IsAnsweredPick}
use Rattle.nvme_log.proofs.AnswerLaws.{answers_by_outcome_are_accounted}
use Rattle.nvme_log.proofs.Prefixes.{IsPrefix-refl}
use Rattle.nvme_ctrl_log.specs.Notes.{Notes, logged}
use Rattle.nvme_ctrl_log.specs.Tags.{answer_or, answers}
use Rattle.nvme_ctrl_log.specs.Account.{IsAccount}
use Rattle.nvme_ctrl_log.proofs.Accounted.{events_are_accounted}
use Rattle.nvme_ctrl_log.proofs.Served.{posted-served}
use Rattle.nvme_engine.specs.Laws.{EnginesKeepAccounts}
use Rattle.nvme_engine.specs.Standing.{StandsAt}
use Rattle.nvme_engine.specs.declared.engine.Engine.{Engine}

-- a picked place is not aborted
picked-unaborted : (past : Past) (r i : ℕ) → is_picked (fate_of past r i) ≡ true → is_aborted past r i ≡ true → ⊥
picked-unaborted past r i picked aborted = let no : is_picked (fate_of past r i) ≡ false = rw aborted refl in cc (no, picked)

-- a place whose completion was posted has a command
record HasCommand (past : Past) (r i : ℕ) : Type 0 where
  entry : Sqe
  is_there : entry_at past r i ≡ Some entry

module _ (rules : FrontRules) (notes : Notes) (e : Engine) (s : StandsAt rules false notes e) where
  -- the log of its controller is accounted
  its_account : IsAccount rules notes
  its_account = let early = s.in_time refl in subst (λ (x : FrontRules). IsAccount x notes) early.0 (s.stands.account early.1)

  its_run : IsLawfulRun rules.mechanism rules.start.settings (arbitration_of (logged notes))
  its_run = let early = s.in_time refl in subst (λ (x : FrontRules). IsLawfulRun x.mechanism x.start.settings (arbitration_of (logged notes))) early.0 s.lawful

  its_places : Each (LeavesPlaces rules) (logged notes)
  its_places = let early = s.in_time refl in subst (λ (x : FrontRules). Each (LeavesPlaces x) (logged notes)) early.0 s.places.each

  command_of : (r i : ℕ) → is_posted (logged notes) r i ≡ true → HasCommand (logged notes) r i
  command_of r i posted = elim ((slice_get_cases (fetched (logged notes) r) i).1) [
    | inl there ↦ record { entry = there.0; is_there = there.2 }
    | inr past ↦
        let h = s.stands.holds.regions r in
        let none = h.none_posted i (subst (λ (xs : List Sqe). length xs ≤ i) h.fetched_is past.0) in
        absurd (true≢false (sym posted ∙ none))
  ]

  -- what was posted of a picked I/O command is its outcome
  by_outcome : (r i : ℕ) → IsAnsweredPick (logged notes) r i → answers notes (place_at r i) ≡ outcomes rules (logged notes) (place_at r i)
  by_outcome r i picked = elim (posted-served rules notes its_account.each r i picked.posted) [
    | inl aborted ↦ absurd (picked-unaborted (logged notes) r i picked.picked aborted)
    | inr a ↦
        let it = command_of r i picked.posted in
        ap answer_or a.answered ∙ s.answers r i it.entry a.answer (ne_eqb r 0 picked.of_io) it.is_there a.answered
        ∙ sym (ap (outcome_at rules) it.is_there)
  ]

  pub keeps_account : log.IsAccount rules (fetched (logged notes)) (logged notes) (posted_to (logged notes))
  keeps_account =
      answers_by_outcome_are_accounted rules (answers notes) (fetched (logged notes)) (logged notes) (posted_to (logged notes)) by_outcome
      (events_are_accounted rules notes (fetched (logged notes)) (posted_to (logged notes)) s.plain.none_passed s.plain.none_arranged s.plain.deletes its_places its_account its_run
      (λ r. IsPrefix-refl (fetched (logged notes) r)) (λ c. IsPrefix-refl (posted_to (logged notes) c)))

pub engines_keep_accounts : EnginesKeepAccounts
engines_keep_accounts rules notes e s = keeps_account rules notes e s
