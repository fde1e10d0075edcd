-- The log of a controller to which a region is added: what is answered is the same at the rules with it, where no entry that was applied names its address,
-- and where queues may lie anywhere.
use Rattle.std.proofs.Common.{◌≡◌, ℕ, ◌<◌, ◌==◌, Bool, true, false, if◌then◌else◌, length, Some, refl, sym, ◌∙◌, subst, inl, inr}
use Rattle.std.proofs.lemmas.Bool.{eqb-true}
use Rattle.std.proofs.lemmas.Option.{same_Some}
use Rattle.nvme_entry.specs.AdminCommand.{admin_command_of}
use Rattle.nvme_entry.specs.declared.submission.Sqe.{Sqe}
use Rattle.nvme_admin.specs.History.{Kind}
use Rattle.nvme_admin.specs.Accepted.{queue_table, status_of, dw0_of, verdict_of}
use Rattle.nvme_log.specs.Rules.{FrontRules, Past, sq_regions_of, cq_regions_of}
use Rattle.nvme_log.specs.Places.{entry_at, fate_of, is_waiting, is_aborted}
use Rattle.nvme_log.specs.Answers.{Answer}
use Rattle.nvme_log.specs.Aborts.{has_aborted, told_dw0}
use Rattle.nvme_log.specs.Completions.{table_before, aborted_status, own_status_by, own_dw0_by}
use Rattle.nvme_ctrl_log.specs.Making.{with_region, command_names}
use Rattle.nvme_ctrl_log.proofs.FurtherTables.{PassesBy, status-further, verdict-further, dw0-further}
use Rattle.nvme_ctrl_log.proofs.FurtherHistories.{IsPassedBy, before-further, placing-before, anywhere-passes}
use Rattle.nvme_ctrl_log.proofs.TakenCommands.{IsSound, admin_picked, picked-unnamed}

module _ (rules : FrontRules) (kind : Kind) (a n : ℕ) (some_sqs : 0 < length (sq_regions_of rules)) (some_cqs : 0 < length (cq_regions_of rules))
    (past : Past) (sound : IsSound rules past) (passed : IsPassedBy rules a past) (r i : ℕ) (entry : Sqe) (there : entry_at past r i ≡ Some entry) (done : is_waiting (fate_of past r i) ≡ false) where
  -- the entry of an admin place that was picked doesn't ask for the region
  entry-other : r ≡ 0 → PassesBy a (queue_table rules.start (table_before rules past i)).placing (admin_command_of entry)
  entry-other zero = elim passed [
    | inl unnamed ↦
        let it = picked-unnamed rules a past sound unnamed i (admin_picked rules past sound.effects i (subst (λ (x : ℕ). is_waiting (fate_of past x i) ≡ false) zero done)) in
        let same : it.entry ≡ entry = same_Some it.entry entry (sym it.is_there ∙ subst (λ (x : ℕ). entry_at past x i ≡ Some entry) zero there) in
        inl (subst (λ (x : Sqe). command_names a (admin_command_of x) ≡ false) same it.other)
    | inr some ↦ anywhere-passes rules a (table_before rules past i) entry (placing-before rules past i) some
  ]

  -- so it has the status that it had
  pub status-stays : (answer : Answer) → own_status_by (with_region kind a n rules) answer past r i entry ≡ own_status_by rules answer past r i entry
  status-stays answer = by (is_aborted past r i) (r == 0) refl where
    by : (b z : Bool) → (r == 0) ≡ z
        → (if b then aborted_status past r i else (if z then status_of rules.start (table_before (with_region kind a n rules) past i) entry else answer.status))
        ≡ (if b then aborted_status past r i else (if z then status_of rules.start (table_before rules past i) entry else answer.status))
    by true z is = refl
    by false false is = refl
    by false true is =
        status-further rules.start kind a n (table_before rules past i) (table_before (with_region kind a n rules) past i) entry (entry-other (eqb-true r 0 is))
        (before-further rules kind a n some_sqs some_cqs past i passed)

  -- and Dword 0
  pub dw0-stays : (answer : Answer) → own_dw0_by (with_region kind a n rules) answer past r i entry ≡ own_dw0_by rules answer past r i entry
  dw0-stays answer = by (is_aborted past r i) (r == 0) refl where
    by : (b z : Bool) → (r == 0) ≡ z
        → (if b then 0 else (if z then told_dw0 (has_aborted past i) (verdict_of rules.start (table_before (with_region kind a n rules) past i) entry) (dw0_of rules.start (table_before (with_region kind a n rules) past i) entry) else answer.dw0))
        ≡ (if b then 0 else (if z then told_dw0 (has_aborted past i) (verdict_of rules.start (table_before rules past i) entry) (dw0_of rules.start (table_before rules past i) entry) else answer.dw0))
    by true z is = refl
    by false false is = refl
    by false true is =
        let alike = before-further rules kind a n some_sqs some_cqs past i passed in
        let other = entry-other (eqb-true r 0 is) in
        λ j. told_dw0 (has_aborted past i) (verdict-further rules.start kind a n (table_before rules past i) (table_before (with_region kind a n rules) past i) entry other alike j)
        (dw0-further rules.start kind a n (table_before rules past i) (table_before (with_region kind a n rules) past i) entry other alike j)
