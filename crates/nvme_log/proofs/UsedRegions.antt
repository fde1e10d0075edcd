-- Which submission regions are used after each step of a table history.
use Rattle.std.proofs.Common.{◌≡◌, ℕ, ◌==◌, ◌||◌, Bool, true, false, if◌then◌else◌, List, ◌∷◌, Option, Some, None, refl}
use Rattle.std.proofs.lemmas.Bool.{eq-eqb, ne_eqb}
use Rattle.nvme_entry.specs.Status.{StatusCode}
use Rattle.nvme_entry.specs.AdminCommand.{admin_command_of}
use Rattle.nvme_entry.specs.declared.submission.Sqe.{Sqe}
use Rattle.nvme_entry.specs.declared.admin.AdminCommand.{AdminCommand}
use Rattle.nvme_entry.specs.declared.admin.AdminCommand.TheVariants.{DeleteSq, CreateSq, DeleteCq, CreateCq, Abort, SetFeatures, GetFeatures, Other}
use Rattle.nvme_arbiter.specs.Settings.{ArbitrationFields}
use Rattle.nvme_admin.specs.declared.verdict.SqEntry.{SqEntry}
use Rattle.nvme_admin.specs.declared.verdict.Verdict.{Verdict}
use Rattle.nvme_admin.specs.declared.verdict.Verdict.TheVariants.{Done, OpenSq, SetArbitration}
use Rattle.nvme_admin.specs.History.{Start, TableHistory, EntryApplied, DeletionFinished, Effects, Accepted}
use Rattle.nvme_admin.specs.QueueTable.{table_in, number_of_queues, sq_in, sq_named_in, is_used}
use Rattle.nvme_admin.specs.Checks.{status_over, is_success, verdict_after, opened_sq, opened_cq}
use Rattle.nvme_admin.specs.Accepted.{effects_of, queue_table, status_of, verdict_of}
use Rattle.nvme_admin.proofs.Reached.{Passes, create_sq-found, status_over-passes}

-- the used regions after a verdict, by those before it: the region of a queue that is opened is used
abbrev pub used_after : Verdict → (ℕ → Bool) → ℕ → Bool
used_after (OpenSq qid region cqid class) before r = region == r || before r
used_after verdict before r = before r

-- two tests in the other order
or_swap : (a b c : Bool) → (a || (b || c)) ≡ (b || (a || c))
or_swap true true c = refl
or_swap true false c = refl
or_swap false b c = refl

-- a region that is named is used, and what was used stays used
named : (region : ℕ) (names : List ℕ) (r : ℕ) → is_used (region ∷ names) r ≡ (region == r || is_used names r)
named region names r = or_swap (r == 0) (region == r) _

-- an identifier that was written has what was written
own : (qid : ℕ) (x y z : Option SqEntry) → (qid ≡ 0 → ⊥) → (if qid == 0 then x else (if qid == qid then y else z)) ≡ y
own qid x y z io = rw (ne_eqb qid 0 io, eq-eqb qid qid refl) refl

-- the opening of a completion queue leaves the used submission regions
opens_cq : (qid : ℕ) (o : Option ℕ) (before : ℕ → Bool) (r : ℕ) → before r ≡ used_after (opened_cq qid o) before r
opens_cq qid None before r = refl
opens_cq qid (Some region) before r = refl

-- so does a feature that is set
sets : (b : Bool) (status : StatusCode) (dw0 : ℕ) (settings : ArbitrationFields) (before : ℕ → Bool) (r : ℕ)
    → before r ≡ used_after (if b then Done status dw0 else SetArbitration settings) before r
sets true status dw0 settings before r = refl
sets false status dw0 settings before r = refl

module _ (start : Start) (e : Effects) where
  -- an accepted Create of a submission queue uses its region
  creates : (qid qsize prp1 cqid qprio : ℕ) (pc : Bool) → Passes (table_in start e) (CreateSq qid qsize prp1 cqid qprio pc) → (r : ℕ)
      → is_used (sq_named_in (Accepted (CreateSq qid qsize prp1 cqid qprio pc) ∷ e)) r
      ≡ used_after (opened_sq qid (sq_in (Accepted (CreateSq qid qsize prp1 cqid qprio pc) ∷ e) qid)) (is_used (sq_named_in e)) r
  creates qid qsize prp1 cqid qprio pc h r =
      let found = create_sq-found (table_in start e) qid qsize prp1 cqid qprio pc h in
      rw (own qid _ _ _ found.not_admin, found.region.found) (named found.region.number (sq_named_in e) r)

  -- an accepted command uses the region of the queue that it opens, and no other
  uses : (command : AdminCommand) → Passes (table_in start e) command → (r : ℕ)
      → is_used (sq_named_in (Accepted command ∷ e)) r ≡ used_after (verdict_after (table_in start (Accepted command ∷ e)) command) (is_used (sq_named_in e)) r
  uses (CreateSq qid qsize prp1 cqid qprio pc) h r = creates qid qsize prp1 cqid qprio pc h r
  uses (CreateCq qid qsize prp1 pc) h r = opens_cq qid _ (is_used (sq_named_in e)) r
  uses (DeleteSq qid) h r = refl
  uses (DeleteCq qid) h r = refl
  uses (Abort sqid cid) h r = refl
  uses (SetFeatures fid sv cdw11) h r = sets (fid == number_of_queues) _ _ _ (is_used (sq_named_in e)) r
  uses (GetFeatures fid) h r = refl
  uses Other h r = refl

-- an entry that passes its checks, or doesn't
used : (start : Start) (e : Effects) (command : AdminCommand) (status : StatusCode) (b : Bool) → (b ≡ true → Passes (table_in start e) command) → (r : ℕ)
    → let after = (if b then Accepted command ∷ e else e) in
    let verdict = (if b then verdict_after (table_in start after) command else Done status 0) in
    is_used (sq_named_in after) r ≡ used_after verdict (is_used (sq_named_in e)) r
used start e command status true passes r = uses start e command (passes refl) r
used start e command status false passes r = refl

-- the used regions after an entry are those of its verdict
pub used-entry : (start : Start) (h : TableHistory) (entry : Sqe) (r : ℕ)
    → (queue_table start (EntryApplied entry ∷ h)).sq_region_used r ≡ used_after (verdict_of start h entry) (queue_table start h).sq_region_used r
unfolding effects_of queue_table status_of verdict_of
used-entry start h entry r =
    let e : Effects = effects_of start h in
    let status : StatusCode = status_over (table_in start e) entry in
    used start e (admin_command_of entry) status (is_success status) (status_over-passes (table_in start e) entry) r

-- the end of a deletion leaves the used regions
pub used-finished : (start : Start) (h : TableHistory) (qid r : ℕ)
    → (queue_table start (DeletionFinished qid ∷ h)).sq_region_used r ≡ (queue_table start h).sq_region_used r
unfolding effects_of queue_table
used-finished start h qid r = refl
