-- Where no command is the device's, none that waits is.
use Rattle.std.proofs.Common.{◌≡◌, ℕ, ◌≤◌, ◌==◌, ◌&&◌, Bool, true, false, not, get_or, Option, Some, None, refl, sym, ap, ◌∙◌, subst, inl, inr}
use Rattle.std.specs.Prelude.{unwrap_or, option_map}
use Rattle.std.proofs.lemmas.Bool.{cases_lt, true≢false}
use Rattle.std.proofs.lemmas.List.{get_or-replicate, length-replicate}
use Rattle.std.proofs.lemmas.Option.{same_Some, unwrap_or-slice_get, slice_get_past}
use Rattle.nvme_entry.specs.AdminCommand.{admin_command_of}
use Rattle.nvme_entry.specs.declared.admin.AdminCommand.{AdminCommand}
use Rattle.nvme_entry.specs.declared.admin.AdminCommand.TheVariants as command
use Rattle.nvme_entry.specs.declared.submission.Sqe.{Sqe}
use Rattle.nvme_log.specs.Rules.{Past}
use Rattle.nvme_log.specs.Histories.{admin_entry}
use Rattle.nvme_ctrl_log.specs.Notes.{Notes, logged}
use Rattle.nvme_ctrl.specs.Own.{has_number, no_numbers, no_own, is_announced, is_own, oldest_is_own}
use Rattle.nvme_ctrl_log.specs.Own.{kind_may_be_own, names_none}

none_set : (n : ℕ) → get_or no_numbers n 0 ≡ 0
none_set n = elim (cases_lt n 256) [
  | inl below ↦ get_or-replicate 256 n 0 0 below
  | inr from ↦ sym (unwrap_or-slice_get no_numbers n 0)
      ∙ ap (λ (o : Option ℕ). unwrap_or o 0) (slice_get_past no_numbers n (subst (λ (m : ℕ). m ≤ n) (sym (length-replicate {A = ℕ} 256 0)) from))
]

no_number : (n : ℕ) → has_number no_numbers n ≡ false
no_number n = ap (λ (m : ℕ). not (m == 0)) (none_set n)

unannounced : (entry : Sqe) (c : AdminCommand) → is_announced no_own entry c ≡ false
unannounced entry command.Other = no_number entry.opcode
unannounced entry (command.Abort sqid cid) = no_number entry.opcode
unannounced entry (command.SetFeatures fid sv cdw11) = no_number fid
unannounced entry (command.GetFeatures fid) = no_number fid
unannounced entry (command.DeleteSq qid) = refl
unannounced entry (command.CreateSq qid qsize prp1 cqid qprio pc) = refl
unannounced entry (command.DeleteCq qid) = refl
unannounced entry (command.CreateCq qid qsize prp1 pc) = refl

none_is_own : (past : Past) (entry : Sqe) → is_own no_own past entry ≡ false
none_is_own past entry = by (kind_may_be_own entry) (is_announced no_own entry (admin_command_of entry)) (names_none past (admin_command_of entry)) (unannounced entry (admin_command_of entry)) where
  by : (a b d : Bool) → b ≡ false → ((a && b) && d) ≡ false
  by true true d h = absurd (cc h)
  by true false d h = refl
  by false b d h = refl

-- so the oldest admin command isn't
pub oldest_isnt_own : (notes : Notes) → oldest_is_own no_own notes ≡ Some true → ⊥
oldest_isnt_own notes h = by (admin_entry (logged notes)) h where
  by : (o : Option Sqe) → option_map (is_own no_own (logged notes)) o ≡ Some true → ⊥
  by None h = cc h
  by (Some entry) h = true≢false (sym (same_Some (is_own no_own (logged notes) entry) true h) ∙ none_is_own (logged notes) entry)
