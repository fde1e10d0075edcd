-- An admin entry is applied.
use Rattle.std.proofs.Common.{◌≡◌, ℕ, ◌==◌, ◌&&◌, Bool, true, false, not, if◌then◌else◌, List, ◌∷◌, ◌++◌, Option, Some, None, refl, sym, ◌∙◌, ap, subst, inl, inr, eqb-true, eq-eqb, true≢false}
use Rattle.std.proofs.Math.Path.{fun_ext}
use Rattle.std.proofs.lemmas.Bool.{cases_Bool}
use Rattle.nvme_entry.specs.Checks.{Check, first_failed}
use Rattle.nvme_entry.specs.Status.{StatusCode, success, invalid_field}
use Rattle.nvme_entry.specs.Submission.{fuse_of}
use Rattle.nvme_entry.specs.AdminCommand.{admin_command_of}
use Rattle.nvme_entry.specs.declared.submission.Sqe.{Sqe}
use Rattle.nvme_entry.specs.declared.admin.AdminCommand.{AdminCommand}
use Rattle.nvme_entry.specs.declared.admin.AdminCommand.TheVariants.{DeleteSq, CreateSq, DeleteCq, CreateCq, Abort, SetFeatures, GetFeatures, Other}
use Rattle.nvme_admin.specs.declared.verdict.SqEntry.{SqEntry}
use Rattle.nvme_admin.specs.declared.verdict.Verdict.{Verdict}
use Rattle.nvme_admin.specs.declared.verdict.Verdict.TheVariants.{Done, SetArbitration}
use Rattle.nvme_admin.specs.History.{Start, TableHistory, EntryApplied, Effects, Accepted}
use Rattle.nvme_admin.specs.QueueTable.{QueueTable, table_in, number_of_queues}
use Rattle.nvme_admin.specs.Checks.{row, rows_of, placing_rows, status_over, is_success, verdict_by, verdict_after, opened_sq, opened_cq, dw0_by, dw0_after, status_in, dw0_in}
use Rattle.nvme_admin.specs.Accepted.{effects_of, queue_table, status_of, verdict_of, dw0_of}
use Rattle.nvme_admin.specs.Steps.{table_after}
use Rattle.nvme_admin.specs.Standing.{TableView, Shows, StandsAt, Does, table_of}
use Rattle.nvme_admin.proofs.Slots.{other}

-- a queue table in which no created queue is counted
abbrev pub uncounted : QueueTable → QueueTable
uncounted t = record t { sqs_made = 0; cqs_made = 0 }

-- a table that shows a queue table has it, but for how many queues were created
pub table_of-shown : (v : TableView) (t : QueueTable) → Shows v t → table_of v ≡ uncounted t
table_of-shown v t s = λ i. record {
  sq = (fun_ext s.sq) i;
  cq = (fun_ext s.cq) i;
  sq_regions = s.sq_regions i;
  cq_regions = s.cq_regions i;
  sq_region_used = (fun_ext s.sq_used) i;
  cq_region_used = (fun_ext s.cq_used) i;
  nsq = s.nsq i;
  ncq = s.ncq i;
  numbers_set = s.numbers_set i;
  created = s.created i;
  settings = s.settings i;
  placing = (sym s.placing) i;
  sqs_made = 0;
  cqs_made = 0;
}

-- that number decides no status and no verdict
rows_of-uncounted : (t : QueueTable) (command : AdminCommand) → rows_of (uncounted t) command ≡ rows_of t command
rows_of-uncounted t (CreateSq qid qsize prp1 cqid qprio pc) = refl
rows_of-uncounted t (CreateCq qid qsize prp1 pc) = refl
rows_of-uncounted t (DeleteSq qid) = refl
rows_of-uncounted t (DeleteCq qid) = refl
rows_of-uncounted t (SetFeatures fid sv cdw11) = refl
rows_of-uncounted t (GetFeatures fid) = refl
rows_of-uncounted t (Abort sqid cid) = refl
rows_of-uncounted t Other = refl

verdict_after-uncounted : (t : QueueTable) (command : AdminCommand) → verdict_after (uncounted t) command ≡ verdict_after t command
verdict_after-uncounted t (CreateSq qid qsize prp1 cqid qprio pc) = refl
verdict_after-uncounted t (CreateCq qid qsize prp1 pc) = refl
verdict_after-uncounted t (DeleteSq qid) = refl
verdict_after-uncounted t (DeleteCq qid) = refl
verdict_after-uncounted t (SetFeatures fid sv cdw11) = refl
verdict_after-uncounted t (GetFeatures fid) = refl
verdict_after-uncounted t (Abort sqid cid) = refl
verdict_after-uncounted t Other = refl

pub status_over-shown : (v : TableView) (t : QueueTable) (entry : Sqe) → Shows v t → status_over (table_of v) entry ≡ status_over t entry
status_over-shown v t entry s =
    ap (λ (u : QueueTable). status_over u entry) (table_of-shown v t s)
    ∙ ap (λ (rows : List Check). first_failed (row (not (fuse_of entry == 0)) invalid_field ∷ placing_rows t.placing entry ++ rows)) (rows_of-uncounted t (admin_command_of entry))

pub verdict_by-shown : (v : TableView) (t : QueueTable) (status : StatusCode) (command : AdminCommand) → Shows v t → verdict_by status (table_of v) command ≡ verdict_by status t command
verdict_by-shown v t status command s =
    ap (λ (u : QueueTable). verdict_by status u command) (table_of-shown v t s)
    ∙ ap (λ (w : Verdict). if is_success status then w else Done status 0) (verdict_after-uncounted t command)

-- success is the one status that is accepted
pub is_success-only : (s : StatusCode) → is_success s ≡ true → s ≡ success
is_success-only s h =
    let both = and_both (s.sct == 0) (s.sc == 0) h in
    λ i. record { sct = (eqb-true s.sct 0 both.0) i; sc = (eqb-true s.sc 0 both.1) i }
  where
    and_both : (a b : Bool) → (a && b) ≡ true → (a ≡ true) × (b ≡ true)
    and_both true b h = (refl, h)
    and_both false b h = cc

-- a verdict answers success with this DW0 where the command is accepted
status_in-opened_sq : (qid : ℕ) (o : Option SqEntry) → status_in (opened_sq qid o) ≡ success
status_in-opened_sq qid None = refl
status_in-opened_sq qid (Some queue) = refl

status_in-opened_cq : (qid : ℕ) (o : Option ℕ) → status_in (opened_cq qid o) ≡ success
status_in-opened_cq qid None = refl
status_in-opened_cq qid (Some region) = refl

dw0_in-opened_sq : (qid : ℕ) (o : Option SqEntry) → dw0_in (opened_sq qid o) ≡ 0
dw0_in-opened_sq qid None = refl
dw0_in-opened_sq qid (Some queue) = refl

dw0_in-opened_cq : (qid : ℕ) (o : Option ℕ) → dw0_in (opened_cq qid o) ≡ 0
dw0_in-opened_cq qid None = refl
dw0_in-opened_cq qid (Some region) = refl

choice : (b : Bool) (d : ℕ) (v : Verdict) → status_in v ≡ success → dw0_in v ≡ 0
    → (status_in (if b then Done success d else v) ≡ success) × (dw0_in (if b then Done success d else v) ≡ (if b then d else 0))
choice true d v s z = (refl, refl)
choice false d v s z = (s, z)

pub status_in-after : (t : QueueTable) (command : AdminCommand) → status_in (verdict_after t command) ≡ success
status_in-after t (CreateSq qid qsize prp1 cqid qprio pc) = status_in-opened_sq qid (t.sq qid)
status_in-after t (CreateCq qid qsize prp1 pc) = status_in-opened_cq qid (t.cq qid)
status_in-after t (DeleteSq qid) = refl
status_in-after t (DeleteCq qid) = refl
status_in-after t (SetFeatures fid sv cdw11) = (choice (fid == number_of_queues) (dw0_after t (SetFeatures fid sv cdw11)) (SetArbitration t.settings) refl refl).0
status_in-after t (GetFeatures fid) = refl
status_in-after t (Abort sqid cid) = refl
status_in-after t Other = refl

dw0_twice : (b : Bool) (n : ℕ) → (if b then (if b then n else 0) else 0) ≡ (if b then n else 0)
dw0_twice true n = refl
dw0_twice false n = refl

pub dw0_in-after : (t : QueueTable) (command : AdminCommand) → dw0_in (verdict_after t command) ≡ dw0_after t command
dw0_in-after t (CreateSq qid qsize prp1 cqid qprio pc) = dw0_in-opened_sq qid (t.sq qid)
dw0_in-after t (CreateCq qid qsize prp1 pc) = dw0_in-opened_cq qid (t.cq qid)
dw0_in-after t (DeleteSq qid) = refl
dw0_in-after t (DeleteCq qid) = refl
dw0_in-after t (SetFeatures fid sv cdw11) =
    (choice (fid == number_of_queues) (dw0_after t (SetFeatures fid sv cdw11)) (SetArbitration t.settings) refl refl).1
    ∙ dw0_twice (fid == number_of_queues) (dw0_after t (SetFeatures number_of_queues sv cdw11))
dw0_in-after t (GetFeatures fid) = refl
dw0_in-after t (Abort sqid cid) = refl
dw0_in-after t Other = refl

status_in-choice : (b : Bool) (s : StatusCode) (v : Verdict) → status_in v ≡ success → (b ≡ true → s ≡ success) → status_in (if b then v else Done s 0) ≡ s
status_in-choice true s v h only = h ∙ sym (only refl)
status_in-choice false s v h only = refl

pub status_in-verdict : (s : StatusCode) (t : QueueTable) (command : AdminCommand) → status_in (verdict_by s t command) ≡ s
status_in-verdict s t command = status_in-choice (is_success s) s (verdict_after t command) (status_in-after t command) (is_success-only s)

dw0_in-choice : (b : Bool) (s : StatusCode) (v : Verdict) (d : ℕ) → dw0_in v ≡ d → dw0_in (if b then v else Done s 0) ≡ (if b then d else 0)
dw0_in-choice true s v d h = h
dw0_in-choice false s v d h = refl

pub dw0_in-verdict : (s : StatusCode) (t : QueueTable) (command : AdminCommand) → dw0_in (verdict_by s t command) ≡ dw0_by s t command
dw0_in-verdict s t command = dw0_in-choice (is_success s) s (verdict_after t command) (dw0_after t command) (dw0_in-after t command)

-- what holds after an entry of a status
pub record Applies (start : Start) (h : TableHistory) (new : TableView) (entry : Sqe) (verdict : Verdict) : Type 0 where
  pub stands : StandsAt start new (EntryApplied entry ∷ h)
  pub is : verdict ≡ verdict_of start h entry

-- a table that stands after an entry has its verdict
Applies-by : (start : Start) (h : TableHistory) (old new : TableView) (entry : Sqe) (verdict : Verdict) (s : StatusCode)
    → StandsAt start old h → status_over (table_of old) entry ≡ s → verdict ≡ verdict_by s (table_of new) (admin_command_of entry)
    → StandsAt start new (EntryApplied entry ∷ h) → Applies start h new entry verdict
unfolding queue_table status_of verdict_of
Applies-by start h old new entry verdict s shown status is stands = record {
  stands = stands;
  is =
      let here : s ≡ status_of start h entry = sym status ∙ status_over-shown old (queue_table start h) entry shown in
      is ∙ verdict_by-shown new (queue_table start (EntryApplied entry ∷ h)) s (admin_command_of entry) stands
      ∙ (λ i. verdict_by (here i) (queue_table start (EntryApplied entry ∷ h)) (admin_command_of entry));
}

-- an entry that is refused
pub Applies-refused : (start : Start) (h : TableHistory) (v : TableView) (entry : Sqe) (verdict : Verdict) (s : StatusCode)
    → StandsAt start v h → status_over (table_of v) entry ≡ s → is_success s ≡ false → verdict ≡ verdict_by s (table_of v) (admin_command_of entry)
    → Applies start h v entry verdict
unfolding effects_of queue_table
Applies-refused start h v entry verdict s shown status fails is =
    let effects : Effects = effects_of start h in
    let here : s ≡ status_over (table_in start effects) entry = sym status ∙ status_over-shown v (table_in start effects) entry shown in
    let failed : is_success (status_over (table_in start effects) entry) ≡ false = ap is_success (sym here) ∙ fails in
    Applies-by start h v v entry verdict s shown status is
    (subst (λ (b : Bool). Shows v (table_in start (if b then Accepted (admin_command_of entry) ∷ effects else effects))) (sym failed) shown)

-- an entry that is accepted
pub Applies-accepted : (start : Start) (h : TableHistory) (old new : TableView) (entry : Sqe) (verdict : Verdict) (s : StatusCode)
    → StandsAt start old h → status_over (table_of old) entry ≡ s → is_success s ≡ true → verdict ≡ verdict_by s (table_of new) (admin_command_of entry)
    → ((start : Start) (effects : Effects) → Shows old (table_in start effects) → Shows new (table_in start (Accepted (admin_command_of entry) ∷ effects)))
    → Applies start h new entry verdict
unfolding effects_of queue_table
Applies-accepted start h old new entry verdict s shown status passes is takes =
    let effects : Effects = effects_of start h in
    let here : s ≡ status_over (table_in start effects) entry = sym status ∙ status_over-shown old (table_in start effects) entry shown in
    let passed : is_success (status_over (table_in start effects) entry) ≡ true = ap is_success (sym here) ∙ passes in
    Applies-by start h old new entry verdict s shown status is
    (subst (λ (b : Bool). Shows new (table_in start (if b then Accepted (admin_command_of entry) ∷ effects else effects))) (sym passed) (takes start effects shown))

-- the status of an entry that isn't fused is that of its command's rows
status_over-alone : (v : TableView) (entry : Sqe) → fuse_of entry ≡ 0 → status_over (table_of v) entry ≡ first_failed (rows_of (table_of v) (admin_command_of entry))
status_over-alone v entry alone = ap (λ (b : Bool). first_failed (row (not b) invalid_field ∷ rows_of (table_of v) (admin_command_of entry))) (eq-eqb (fuse_of entry) 0 alone)

status_over-fused : (t : QueueTable) (entry : Sqe) → (fuse_of entry ≡ 0 → ⊥) → status_over t entry ≡ invalid_field
status_over-fused t entry fused = ap (λ (b : Bool). first_failed (row (not b) invalid_field ∷ placing_rows t.placing entry ++ rows_of t (admin_command_of entry))) (other (fuse_of entry) 0 fused)

-- an entry that isn't fused
pub Applies-alone : (start : Start) (h : TableHistory) (old new : TableView) (entry : Sqe) (verdict : Verdict) (command : AdminCommand) (fuse : ℕ)
    → command ≡ admin_command_of entry → fuse ≡ fuse_of entry → fuse ≡ 0 → Does old new command verdict → StandsAt start old h → Applies start h new entry verdict
Applies-alone start h old new entry verdict command fuse command_is fuse_is alone does_it shown =
    let s : StatusCode = first_failed (rows_of (table_of old) (admin_command_of entry)) in
    let status : status_over (table_of old) entry ≡ s = status_over-alone old entry (sym fuse_is ∙ alone) in
    let does : Does old new (admin_command_of entry) verdict = subst (λ (k : AdminCommand). Does old new k verdict) command_is does_it in
    elim (cases_Bool (is_success s)) [
      | inl passes ↦ Applies-accepted start h old new entry verdict s shown status passes does.verdict_is (does.accepted passes)
      | inr fails ↦
          subst (λ (w : TableView). Applies start h w entry verdict) (sym (does.refused fails))
          (Applies-refused start h old entry verdict s shown status fails
          (subst (λ (w : TableView). verdict ≡ verdict_by s (table_of w) (admin_command_of entry)) (does.refused fails) does.verdict_is))
    ]

-- a fused entry
pub Applies-fused : (start : Start) (h : TableHistory) (v : TableView) (entry : Sqe) (fuse : ℕ) → fuse ≡ fuse_of entry → (fuse ≡ 0 → ⊥) → StandsAt start v h
    → Applies start h v entry (Done invalid_field 0)
Applies-fused start h v entry fuse fuse_is fused shown =
    Applies-refused start h v entry (Done invalid_field 0) invalid_field shown (status_over-fused (table_of v) entry (λ p. fused (fuse_is ∙ p))) refl refl

pub status_of-applied : (start : Start) (h : TableHistory) (new : TableView) (entry : Sqe) (verdict : Verdict) → Applies start h new entry verdict → status_in verdict ≡ status_of start h entry
unfolding verdict_of
status_of-applied start h new entry verdict a =
    ap status_in a.is ∙ status_in-verdict (status_of start h entry) (queue_table start (EntryApplied entry ∷ h)) (admin_command_of entry)

pub dw0_of-applied : (start : Start) (h : TableHistory) (new : TableView) (entry : Sqe) (verdict : Verdict) → Applies start h new entry verdict → dw0_in verdict ≡ dw0_of start h entry
unfolding verdict_of dw0_of
dw0_of-applied start h new entry verdict a =
    ap dw0_in a.is ∙ dw0_in-verdict (status_of start h entry) (queue_table start (EntryApplied entry ∷ h)) (admin_command_of entry)

-- ---- an entry by what the table has
-- what holds after an entry, by what the table had
pub record AppliesTo (old new : TableView) (entry : Sqe) (verdict : Verdict) : Type 0 where
  pub checked : status_in verdict ≡ status_over (table_of old) entry
  pub answered : verdict ≡ verdict_by (status_over (table_of old) entry) (table_of new) (admin_command_of entry)
  pub accepted : is_success (status_in verdict) ≡ true → Shows new (table_after (table_of old) (admin_command_of entry))

-- an entry that isn't fused
pub AppliesTo-alone : (old new : TableView) (entry : Sqe) (verdict : Verdict) (command : AdminCommand) (fuse : ℕ)
    → command ≡ admin_command_of entry → fuse ≡ fuse_of entry → fuse ≡ 0 → Does old new command verdict → AppliesTo old new entry verdict
AppliesTo-alone old new entry verdict command fuse command_is fuse_is alone does_it =
    let s : StatusCode = first_failed (rows_of (table_of old) (admin_command_of entry)) in
    let status : status_over (table_of old) entry ≡ s = status_over-alone old entry (sym fuse_is ∙ alone) in
    let does : Does old new (admin_command_of entry) verdict = subst (λ (k : AdminCommand). Does old new k verdict) command_is does_it in
    let told : status_in verdict ≡ s = ap status_in does.verdict_is ∙ status_in-verdict s (table_of new) (admin_command_of entry) in
    record {
      checked = told ∙ sym status;
      answered = does.verdict_is ∙ ap (λ (r : StatusCode). verdict_by r (table_of new) (admin_command_of entry)) (sym status);
      accepted = λ h. does.takes (sym (ap is_success told) ∙ h);
    }

-- a fused entry
pub AppliesTo-fused : (v : TableView) (entry : Sqe) (fuse : ℕ) → fuse ≡ fuse_of entry → (fuse ≡ 0 → ⊥) → AppliesTo v v entry (Done invalid_field 0)
AppliesTo-fused v entry fuse fuse_is fused =
    let status : status_over (table_of v) entry ≡ invalid_field = status_over-fused (table_of v) entry (λ p. fused (fuse_is ∙ p)) in
    record {
      checked = sym status;
      answered = ap (λ (r : StatusCode). verdict_by r (table_of v) (admin_command_of entry)) (sym status);
      accepted = λ h. absurd (true≢false (sym h));
    }
