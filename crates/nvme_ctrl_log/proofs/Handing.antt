-- A pick whose commands are handed to the device leaves the queue table, and the statuses of what is ready.
use Rattle.std.proofs.Common.{◌≡◌, ℕ, ◌==◌, ◌&&◌, Bool, true, false, if◌then◌else◌, List, [], ◌∷◌, ◌++◌, ◌⊎◌, inl, inr, Option, Some, None, length, refl, sym, ap, ◌∙◌, subst, arith}
use Rattle.std.specs.Prelude.{not, slice_get}
use Rattle.std.specs.List.{All}
use Rattle.std.proofs.lemmas.Bool.{and_parts, eq-eqb, ne_eqb, eqb-true, false_from_ne_true}
use Rattle.std.proofs.lemmas.List.Elements.{All-head}
use Rattle.nvme_entry.specs.Status.{StatusCode, invalid_field}
use Rattle.nvme_entry.specs.Checks.{Check, first_failed}
use Rattle.nvme_entry.specs.Submission.{fuse_of}
use Rattle.nvme_entry.specs.AdminCommand.{admin_command_of}
use Rattle.nvme_entry.specs.declared.submission.Sqe.{Sqe}
use Rattle.nvme_entry.specs.declared.admin.AdminCommand.{AdminCommand}
use Rattle.nvme_entry.specs.declared.admin.AdminCommand.TheVariants as command
use Rattle.nvme_arbiter.specs.declared.pick.Seen.{Seen}
use Rattle.nvme_arbiter.specs.declared.pick.Pick.{Pick}
use Rattle.nvme_admin.specs.History.{Start, TableHistory, Placing, EntryApplied, Effects, Accepted}
use Rattle.nvme_admin.specs.QueueTable.{QueueTable, table_in}
use Rattle.nvme_admin.specs.Checks.{status_over, rows_of, placing_rows, placing_rows_of, is_success, verdict_by, verdict_after}
use Rattle.nvme_admin.specs.Accepted.{effects_of, after_entry, queue_table, status_of, verdict_of}
use Rattle.nvme_admin.specs.declared.verdict.Verdict.TheVariants as verdict
use Rattle.nvme_log.specs.declared.event.Event.{Event}
use Rattle.nvme_log.specs.declared.event.Event.TheVariants as event
use Rattle.nvme_log.specs.Rules.{FrontRules, Past}
use Rattle.nvme_log.specs.Places.{waiting, fate_of, is_waiting}
use Rattle.nvme_log.specs.Histories.{admin_entry, table_history}
use Rattle.nvme_log.specs.Aborts.{is_index}
use Rattle.nvme_log.specs.Effects.{abort_of, made_by, made_of, made_last, effects_since}
use Rattle.nvme_ctrl_log.specs.Own.{is_core_feature, command_may_be_own, names_none, may_be_own}
use Rattle.nvme_ctrl_log.proofs.AbortsLeave.{Stays, waiting_wait}
use Rattle.nvme_ctrl_log.proofs.HandedPicks.{IsHanded}

-- ---- the queue table
-- a command reads a feature
record IsGet (c : AdminCommand) : Type 0 where
  fid : ℕ
  is : c ≡ command.GetFeatures fid

-- a command is an Abort that names no command that waits
record IsVainAbort (past : Past) (c : AdminCommand) : Type 0 where
  sqid : ℕ
  cid : ℕ
  is : c ≡ command.Abort sqid cid
  none : abort_of past sqid cid ≡ []

abbrev LeavesAll : Past → StatusCode → AdminCommand → Type 0
LeavesAll past status c = (is_success status ≡ false) ⊎ (IsGet c ⊎ IsVainAbort past c)

-- a list of no events has none
no_events : (es : List Event) → (length es == 0) ≡ true → es ≡ []
no_events [] h = refl
no_events (e ∷ es) h = let n = eqb-true (length (e ∷ es)) 0 h in absurd (omega (arith, n))

-- the rows that an entry with this command has beside those of the command
abbrev placed_rows : Option Placing → Sqe → AdminCommand → List Check
placed_rows None entry c = []
placed_rows (Some p) entry c = placing_rows_of p entry c

placed_rows_are : (placing : Option Placing) (entry : Sqe) → placed_rows placing entry (admin_command_of entry) ≡ placing_rows placing entry
placed_rows_are None entry = refl
placed_rows_are (Some p) entry = refl

-- a command that sets a feature, and one that isn't known, has none of them
set_unplaced : (placing : Option Placing) (entry : Sqe) (fid : ℕ) (sv : Bool) (cdw11 : ℕ) → placed_rows placing entry (command.SetFeatures fid sv cdw11) ≡ []
set_unplaced None entry fid sv cdw11 = refl
set_unplaced (Some p) entry fid sv cdw11 = refl

other_unplaced : (placing : Option Placing) (entry : Sqe) → placed_rows placing entry command.Other ≡ []
other_unplaced None entry = refl
other_unplaced (Some p) entry = refl

-- one that may be the device's is refused, reads, or aborts nothing
refused_or_vain : (t : QueueTable) (past : Past) (entry : Sqe) (fused : Bool) (c : AdminCommand) → ((fused && command_may_be_own entry c) && names_none past c) ≡ true
    → LeavesAll past (if not fused then invalid_field else first_failed (placed_rows t.placing entry c ++ rows_of t c)) c
refused_or_vain t past entry false c h = cc h
refused_or_vain t past entry true command.Other h =
    inl (ap (λ (rows : List Check). is_success (first_failed (rows ++ rows_of t command.Other))) (other_unplaced t.placing entry))
refused_or_vain t past entry true (command.SetFeatures fid sv cdw11) h =
    let may = (and_parts (not (is_core_feature fid)) true h).0 in
    inl (ap (λ (rows : List Check). is_success (first_failed (rows ++ rows_of t (command.SetFeatures fid sv cdw11)))) (set_unplaced t.placing entry fid sv cdw11) ∙ rw may refl)
refused_or_vain t past entry true (command.GetFeatures fid) h = inr (inl (record { fid = fid; is = refl }))
refused_or_vain t past entry true (command.Abort sqid cid) h = inr (inr (record { sqid = sqid; cid = cid; is = refl; none = no_events (abort_of past sqid cid) h }))
refused_or_vain t past entry true (command.DeleteSq qid) h = cc h
refused_or_vain t past entry true (command.CreateSq qid qsize prp1 cqid qprio pc) h = cc h
refused_or_vain t past entry true (command.DeleteCq qid) h = cc h
refused_or_vain t past entry true (command.CreateCq qid qsize prp1 pc) h = cc h

-- so of its status over a queue table
own_leaves : (t : QueueTable) (past : Past) (entry : Sqe) → may_be_own past entry ≡ true → LeavesAll past (status_over t entry) (admin_command_of entry)
own_leaves t past entry may =
    subst (λ (rows : List Check). LeavesAll past (if not (fuse_of entry == 0) then invalid_field else first_failed (rows ++ rows_of t (admin_command_of entry))) (admin_command_of entry))
    (placed_rows_are t.placing entry) (refused_or_vain t past entry (fuse_of entry == 0) (admin_command_of entry) may)

-- so it leaves the table
left_after : (start : Start) (effects : Effects) (past : Past) (status : StatusCode) (c : AdminCommand) → LeavesAll past status c
    → table_in start (after_entry status c effects) ≡ table_in start effects
left_after start effects past status c (inl refused) = ap (λ (b : Bool). table_in start (if b then Accepted c ∷ effects else effects)) refused
left_after start effects past status c (inr (inl get)) =
    subst (λ (x : AdminCommand). table_in start (after_entry status x effects) ≡ table_in start effects) (sym get.is) (by (is_success status)) where
      by : (b : Bool) → table_in start (if b then Accepted (command.GetFeatures get.fid) ∷ effects else effects) ≡ table_in start effects
      by true = refl
      by false = refl
left_after start effects past status c (inr (inr vain)) =
    subst (λ (x : AdminCommand). table_in start (after_entry status x effects) ≡ table_in start effects) (sym vain.is) (by (is_success status)) where
      by : (b : Bool) → table_in start (if b then Accepted (command.Abort vain.sqid vain.cid) ∷ effects else effects) ≡ table_in start effects
      by true = refl
      by false = refl

pub table_stays : (start : Start) (h : TableHistory) (past : Past) (entry : Sqe) → may_be_own past entry ≡ true → queue_table start (EntryApplied entry ∷ h) ≡ queue_table start h
unfolding effects_of queue_table
table_stays start h past entry may =
    left_after start (effects_of start h) past (status_over (table_in start (effects_of start h)) entry) (admin_command_of entry)
    (own_leaves (table_in start (effects_of start h)) past entry may)

-- and makes nothing
made_of_verdict : (past : Past) (after : QueueTable) (status : StatusCode) (c : AdminCommand) → LeavesAll past status c → made_by past (verdict_by status after c) ≡ []
made_of_verdict past after status c (inl refused) = rw refused refl
made_of_verdict past after status c (inr (inl get)) = subst (λ (x : AdminCommand). made_by past (verdict_by status after x) ≡ []) (sym get.is) (by (is_success status)) where
  by : (b : Bool) → made_by past (if b then verdict_after after (command.GetFeatures get.fid) else verdict.Done status 0) ≡ []
  by true = refl
  by false = refl
made_of_verdict past after status c (inr (inr vain)) = subst (λ (x : AdminCommand). made_by past (verdict_by status after x) ≡ []) (sym vain.is) (by (is_success status)) where
  by : (b : Bool) → made_by past (if b then verdict_after after (command.Abort vain.sqid vain.cid) else verdict.Done status 0) ≡ []
  by true = vain.none
  by false = refl

makes_none : (start : Start) (h : TableHistory) (entry : Sqe) (past : Past) → may_be_own past entry ≡ true → made_by past (verdict_of start h entry) ≡ []
unfolding effects_of queue_table status_of verdict_of
makes_none start h entry past may =
    made_of_verdict past (queue_table start (EntryApplied entry ∷ h)) (status_over (table_in start (effects_of start h)) entry) (admin_command_of entry)
    (own_leaves (table_in start (effects_of start h)) past entry may)

-- ---- the pick
pub handed_makes_none : (rules : FrontRules) (past : Past) (seen : List Seen) (pick : Pick) → IsHanded past pick → effects_since (event.Pick seen pick ∷ past) ≡ made_last rules (event.Pick seen pick ∷ past)
handed_makes_none rules past seen pick (inl io) = rw (ne_eqb pick.qid 0 io) refl
handed_makes_none rules past seen pick (inr p) =
    sym (ap (λ (b : Bool). if b then made_of rules past (admin_entry past) else []) (eq-eqb pick.qid 0 p.of_admin)
    ∙ ap (λ (o : Option Sqe). made_of rules past o) p.next ∙ makes_none rules.start (table_history rules past) p.entry past p.may_be)

-- a place that doesn't wait isn't the first that waits
not_first : (past : Past) (i : ℕ) → is_waiting (fate_of past 0 i) ≡ false → is_index i (slice_get (waiting past 0) 0) ≡ false
not_first past i done = by (waiting past 0) (waiting_wait past 0) where
  by : (ws : List ℕ) → All (λ (j : ℕ). is_waiting (fate_of past 0 j) ≡ true) ws → is_index i (slice_get ws 0) ≡ false
  by [] waits = refl
  by (j ∷ rest) waits = false_from_ne_true (j == i) (λ same.
      let here : is_waiting (fate_of past 0 i) ≡ true = subst (λ (z : ℕ). is_waiting (fate_of past 0 z) ≡ true) (eqb-true j i same)
      (All-head (λ (z : ℕ). is_waiting (fate_of past 0 z) ≡ true) j rest waits) in
      cc (here, done))

-- so what is ready keeps its status
pub handed_stays : (rules : FrontRules) (past : Past) (seen : List Seen) (pick : Pick) → IsHanded past pick → (r i : ℕ) → is_waiting (fate_of past r i) ≡ false
    → Stays rules past (event.Pick seen pick ∷ past) r i
handed_stays rules past seen pick (inl io) r i done =
    let apart : (pick.qid == 0) ≡ false = ne_eqb pick.qid 0 io in
    record { there = λ e h. h; aborted = refl; requested = refl; table = λ z. rw apart refl; told = λ z. rw apart refl }
handed_stays rules past seen pick (inr p) r i done = record {
  there = λ e h. h;
  aborted = refl;
  requested = refl;
  table = λ z. rw (is_first, other z) refl;
  told = λ z. rw (is_first, other z) refl;
} where
  is_first : (pick.qid == 0) ≡ true
  is_first = eq-eqb pick.qid 0 p.of_admin

  other : r ≡ 0 → is_index i (slice_get (waiting past 0) 0) ≡ false
  other z = not_first past i (subst (λ (x : ℕ). is_waiting (fate_of past x i) ≡ false) z done)
