-- Which completion regions are used after each step of a table history.
use Rattle.std.proofs.Common.{◌≡◌, ℕ, ◌==◌, ◌||◌, Bool, true, false, if◌then◌else◌, List, ◌∷◌, Option, Some, None, refl}
use Rattle.std.proofs.lemmas.Bool.{eq-eqb, ne_eqb}
use Rattle.nvme_entry.specs.Status.{StatusCode}
use Rattle.nvme_entry.specs.AdminCommand.{admin_command_of}
use Rattle.nvme_entry.specs.declared.submission.Sqe.{Sqe}
use Rattle.nvme_entry.specs.declared.admin.AdminCommand.{AdminCommand}
use Rattle.nvme_entry.specs.declared.admin.AdminCommand.TheVariants.{DeleteSq, CreateSq, DeleteCq, CreateCq, Abort, SetFeatures, GetFeatures, Other}
use Rattle.nvme_arbiter.specs.Settings.{ArbitrationFields}
use Rattle.nvme_admin.specs.declared.verdict.SqEntry.{SqEntry}
use Rattle.nvme_admin.specs.declared.verdict.Verdict.{Verdict}
use Rattle.nvme_admin.specs.declared.verdict.Verdict.TheVariants.{Done, OpenCq, SetArbitration}
use Rattle.nvme_admin.specs.History.{Start, TableHistory, EntryApplied, DeletionFinished, Effects, Accepted}
use Rattle.nvme_admin.specs.QueueTable.{table_in, number_of_queues, cq_in, cq_named_in, is_used}
use Rattle.nvme_admin.specs.Checks.{status_over, is_success, verdict_after, opened_sq, opened_cq}
use Rattle.nvme_admin.specs.Accepted.{effects_of, queue_table, status_of, verdict_of}
use Rattle.nvme_admin.proofs.Reached.{Passes, create_cq-found, status_over-passes}

-- the used regions after a verdict, by those before it: the region of a queue that is opened is used
abbrev pub cq_used_after : Verdict → (ℕ → Bool) → ℕ → Bool
cq_used_after (OpenCq qid region) before r = region == r || before r
cq_used_after verdict before r = before r

-- two tests in the other order
or_swap : (a b c : Bool) → (a || (b || c)) ≡ (b || (a || c))
or_swap true true c = refl
or_swap true false c = refl
or_swap false b c = refl

-- a region that is named is used, and what was used stays used
named : (region : ℕ) (names : List ℕ) (r : ℕ) → is_used (region ∷ names) r ≡ (region == r || is_used names r)
named region names r = or_swap (r == 0) (region == r) _

-- an identifier that was written has what was written
own : (qid : ℕ) (x y z : Option ℕ) → (qid ≡ 0 → ⊥) → (if qid == 0 then x else (if qid == qid then y else z)) ≡ y
own qid x y z io = rw (ne_eqb qid 0 io, eq-eqb qid qid refl) refl

-- the opening of a submission queue leaves the used completion regions
opens_sq : (qid : ℕ) (o : Option SqEntry) (before : ℕ → Bool) (r : ℕ) → before r ≡ cq_used_after (opened_sq qid o) before r
opens_sq qid None before r = refl
opens_sq qid (Some queue) before r = refl

-- so does a feature that is set
sets : (b : Bool) (status : StatusCode) (dw0 : ℕ) (settings : ArbitrationFields) (before : ℕ → Bool) (r : ℕ)
    → before r ≡ cq_used_after (if b then Done status dw0 else SetArbitration settings) before r
sets true status dw0 settings before r = refl
sets false status dw0 settings before r = refl

module _ (start : Start) (e : Effects) where
  -- an accepted Create of a completion queue uses its region
  creates : (qid qsize prp1 : ℕ) (pc : Bool) → Passes (table_in start e) (CreateCq qid qsize prp1 pc) → (r : ℕ)
      → is_used (cq_named_in (Accepted (CreateCq qid qsize prp1 pc) ∷ e)) r
      ≡ cq_used_after (opened_cq qid (cq_in (Accepted (CreateCq qid qsize prp1 pc) ∷ e) qid)) (is_used (cq_named_in e)) r
  creates qid qsize prp1 pc h r =
      let found = create_cq-found (table_in start e) qid qsize prp1 pc h in
      rw (own qid _ _ _ found.not_admin, found.region.found) (named found.region.number (cq_named_in e) r)

  -- an accepted command uses the region of the queue that it opens, and no other
  uses : (command : AdminCommand) → Passes (table_in start e) command → (r : ℕ)
      → is_used (cq_named_in (Accepted command ∷ e)) r ≡ cq_used_after (verdict_after (table_in start (Accepted command ∷ e)) command) (is_used (cq_named_in e)) r
  uses (CreateSq qid qsize prp1 cqid qprio pc) h r = opens_sq qid _ (is_used (cq_named_in e)) r
  uses (CreateCq qid qsize prp1 pc) h r = creates qid qsize prp1 pc h r
  uses (DeleteSq qid) h r = refl
  uses (DeleteCq qid) h r = refl
  uses (Abort sqid cid) h r = refl
  uses (SetFeatures fid sv cdw11) h r = sets (fid == number_of_queues) _ _ _ (is_used (cq_named_in e)) r
  uses (GetFeatures fid) h r = refl
  uses Other h r = refl

-- an entry that passes its checks, or doesn't
used : (start : Start) (e : Effects) (command : AdminCommand) (status : StatusCode) (b : Bool) → (b ≡ true → Passes (table_in start e) command) → (r : ℕ)
    → let after = (if b then Accepted command ∷ e else e) in
    let verdict = (if b then verdict_after (table_in start after) command else Done status 0) in
    is_used (cq_named_in after) r ≡ cq_used_after verdict (is_used (cq_named_in e)) r
used start e command status true passes r = uses start e command (passes refl) r
used start e command status false passes r = refl

-- the used regions after an entry are those of its verdict
pub cq_used-entry : (start : Start) (h : TableHistory) (entry : Sqe) (r : ℕ)
    → (queue_table start (EntryApplied entry ∷ h)).cq_region_used r ≡ cq_used_after (verdict_of start h entry) (queue_table start h).cq_region_used r
unfolding effects_of queue_table status_of verdict_of
cq_used-entry start h entry r =
    let e : Effects = effects_of start h in
    let status : StatusCode = status_over (table_in start e) entry in
    used start e (admin_command_of entry) status (is_success status) (status_over-passes (table_in start e) entry) r

-- the end of a deletion leaves the used regions
pub cq_used-finished : (start : Start) (h : TableHistory) (qid r : ℕ)
    → (queue_table start (DeletionFinished qid ∷ h)).cq_region_used r ≡ (queue_table start h).cq_region_used r
unfolding effects_of queue_table
cq_used-finished start h qid r = refl
