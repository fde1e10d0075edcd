-- Who gave the status of a completion: the device, an abort, or the controller's checks of admin commands.
use Rattle.std.proofs.Common.{◌≡◌, ℕ, ◌==◌, ◌&&◌, Bool, true, false, Some, refl, sym, ap, ◌∙◌, subst, inl, inr, eqb-true}
use Rattle.std.specs.Prelude.{MatchBool}
use Rattle.std.proofs.lemmas.Bool.{cases_Bool, false_from_ne_true}
use Rattle.std.proofs.lemmas.Option.{same_Some}
use Rattle.nvme_entry.specs.declared.submission.Sqe.{Sqe}
use Rattle.nvme_entry.specs.declared.completion.Cqe.{Cqe}
use Rattle.nvme_admin.specs.Accepted.{status_of}
use Rattle.nvme_log.specs.declared.event.Event.TheVariants.{Post}
use Rattle.nvme_log.specs.Rules.{FrontRules}
use Rattle.nvme_log.specs.Places.{entry_at, is_aborted}
use Rattle.nvme_log.specs.Answers.{by_answers}
use Rattle.nvme_log.specs.Completions.{table_before, aborted_status, admin_dw0}
use Rattle.nvme_log.specs.Account.{PostsOwnBy}
use Rattle.nvme_log.proofs.Turns.{admin-unaborted}
use Rattle.nvme_ctrl_log.specs.Notes.{Notes, EachNote, logged}
use Rattle.nvme_ctrl_log.specs.Tags.{is_passed, answers}
use Rattle.nvme_ctrl_log.specs.Account.{IsLawful, PostsOwn, PostsAnswer}
use Rattle.nvme_own_statuses.specs.Statuses.{is_given}
use Rattle.nvme_own_log.proofs.AdminQueues.{effects_of}

module _ (rules : FrontRules) where
  pub data StatusBy (notes : Notes) (r i : ℕ) (entry : Sqe) (cqe : Cqe) : Type 0 where
    by_device : is_given notes r i ≡ true → StatusBy notes r i entry cqe
    by_abort : is_aborted (logged notes) r i ≡ true → cqe.status ≡ aborted_status (logged notes) r i → StatusBy notes r i entry cqe
    by_checks : r ≡ 0 → is_passed notes i ≡ false → cqe.status ≡ status_of rules.start (table_before rules (logged notes) i) entry → cqe.dw0 ≡ admin_dw0 rules (logged notes) i entry → StatusBy notes r i entry cqe

  module _ (notes : Notes) (h : EachNote (IsLawful rules) notes) (c r i : ℕ) (cqe : Cqe) (entry : Sqe) (at : entry_at (logged notes) r i ≡ Some entry) where
    unaborted : r ≡ 0 → is_aborted (logged notes) r i ≡ false
    unaborted z = false_from_ne_true (is_aborted (logged notes) r i) (λ a. admin-unaborted rules (logged notes) (effects_of rules notes h) i (subst (λ (k : ℕ). is_aborted (logged notes) k i ≡ true) z a))

    own : (b p : Bool) → (r == 0) ≡ b → is_passed notes i ≡ p → (b && p) ≡ false → PostsOwnBy rules (by_answers (answers notes)) (logged notes) (Post c r i cqe) → StatusBy notes r i entry cqe
    own b p z e none it =
        let same : it.2.entry ≡ entry = same_Some it.2.entry entry (sym it.2.is_there ∙ at) in
        elim (cases_Bool (is_aborted (logged notes) r i)) [
          | inl aborted ↦ by_abort aborted (it.2.status ∙ rw aborted refl)
          | inr whole ↦ by_region b p z e none it same whole
        ] where
          by_region : (b p : Bool) → (r == 0) ≡ b → is_passed notes i ≡ p → (b && p) ≡ false → (it : PostsOwnBy rules (by_answers (answers notes)) (logged notes) (Post c r i cqe))
              → it.2.entry ≡ entry → is_aborted (logged notes) r i ≡ false → StatusBy notes r i entry cqe
          by_region true true z e none it same whole = cc none
          by_region true false z e none it same whole =
              by_checks (eqb-true r 0 z) e
              (it.2.status ∙ rw (whole, z) refl ∙ ap (λ (x : Sqe). status_of rules.start (table_before rules (logged notes) i) x) same)
              (it.2.dw0 ∙ rw (whole, z) refl ∙ ap (λ (x : Sqe). admin_dw0 rules (logged notes) i x) same)
          by_region false p z e none it same whole = by_device (rw (z, whole) refl)

    pub status_by : PostsOwn rules notes (Post c r i cqe) → StatusBy notes r i entry cqe
    status_by = by (r == 0) (is_passed notes i) refl refl where
      by : (b p : Bool) → (r == 0) ≡ b → is_passed notes i ≡ p
          → MatchBool (b && p) (PostsAnswer rules notes c i cqe) (PostsOwnBy rules (by_answers (answers notes)) (logged notes) (Post c r i cqe)) → StatusBy notes r i entry cqe
      by true true z e it = by_device (rw (z, e, unaborted (eqb-true r 0 z)) refl)
      by true false z e it = own true false z e refl it
      by false p z e it = own false p z e refl it
