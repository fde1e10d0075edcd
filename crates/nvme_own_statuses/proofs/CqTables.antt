-- What an entry makes of the completion queues of a table.
use Rattle.std.proofs.Common.{◌≡◌, ℕ, Bool, true, false, not, if◌then◌else◌, ◌∷◌, Option, is_some, refl, ap, ◌∙◌, subst, eqb-true}
use Rattle.std.proofs.lemmas.Bool.{ne_eqb}
use Rattle.nvme_entry.specs.AdminCommand.{admin_command_of}
use Rattle.nvme_entry.specs.declared.submission.Sqe.{Sqe}
use Rattle.nvme_entry.specs.declared.admin.AdminCommand.{AdminCommand}
use Rattle.nvme_entry.specs.declared.admin.AdminCommand.TheVariants.{DeleteSq, CreateSq, DeleteCq, CreateCq, Abort, SetFeatures, GetFeatures, Other}
use Rattle.nvme_admin.specs.History.{Start, TableHistory, EntryApplied, DeletionFinished, Effects, Accepted}
use Rattle.nvme_admin.specs.QueueTable.{table_in, cq_in}
use Rattle.nvme_admin.specs.Checks.{is_success, status_over}
use Rattle.nvme_admin.specs.Accepted.{effects_of, queue_table, cq_at, status_of}
use Rattle.nvme_admin.proofs.Reached.{Passes, create_cq-found, delete_cq-found, status_over-passes}
use Rattle.nvme_log.specs.declared.event.Event.{Event}
use Rattle.nvme_log.specs.declared.event.Event.TheVariants as event
use Rattle.nvme_log.specs.Rules.{FrontRules, Past}
use Rattle.nvme_log.specs.Histories.{table_history}
use Rattle.nvme_audit.specs.Queues.{turns_cq, qsize_by}

-- a Create of a completion queue
abbrev pub opens_cq : AdminCommand → Bool
opens_cq (CreateCq qid qsize prp1 pc) = true
opens_cq command = false

-- ---- what the judge finds
pub qsize_leaves : (a : AdminCommand) (q : ℕ) (before : Option ℕ) → turns_cq a q ≡ false → qsize_by a q before ≡ before
qsize_leaves (DeleteSq qid) q before h = refl
qsize_leaves (CreateSq qid qsize prp1 cqid qprio pc) q before h = refl
qsize_leaves (DeleteCq qid) q before h = rw h refl
qsize_leaves (CreateCq qid qsize prp1 pc) q before h = rw h refl
qsize_leaves (Abort sqid cid) q before h = refl
qsize_leaves (SetFeatures fid sv cdw11) q before h = refl
qsize_leaves (GetFeatures fid) q before h = refl
qsize_leaves Other q before h = refl

pub qsize_turns : (a : AdminCommand) (q : ℕ) (before : Option ℕ) → turns_cq a q ≡ true → is_some (qsize_by a q before) ≡ opens_cq a
qsize_turns (DeleteSq qid) q before h = cc h
qsize_turns (CreateSq qid qsize prp1 cqid qprio pc) q before h = cc h
qsize_turns (DeleteCq qid) q before h = rw h refl
qsize_turns (CreateCq qid qsize prp1 pc) q before h = rw h refl
qsize_turns (Abort sqid cid) q before h = cc h
qsize_turns (SetFeatures fid sv cdw11) q before h = cc h
qsize_turns (GetFeatures fid) q before h = cc h
qsize_turns Other q before h = cc h

-- ---- what the table has
leaves_in : (a : AdminCommand) (e : Effects) (q : ℕ) → turns_cq a q ≡ false → cq_in (Accepted a ∷ e) q ≡ cq_in e q
leaves_in (DeleteSq qid) e q h = refl
leaves_in (CreateSq qid qsize prp1 cqid qprio pc) e q h = refl
leaves_in (DeleteCq qid) e q h = rw h refl
leaves_in (CreateCq qid qsize prp1 pc) e q h = rw h refl
leaves_in (Abort sqid cid) e q h = refl
leaves_in (SetFeatures fid sv cdw11) e q h = refl
leaves_in (GetFeatures fid) e q h = refl
leaves_in Other e q h = refl

turns_in : (start : Start) (a : AdminCommand) (e : Effects) (q : ℕ) → turns_cq a q ≡ true → Passes (table_in start e) a → (is_some (cq_in e q) ≡ not (opens_cq a)) × (is_some (cq_in (Accepted a ∷ e) q) ≡ opens_cq a)
turns_in start (DeleteSq qid) e q h p = cc h
turns_in start (CreateSq qid qsize prp1 cqid qprio pc) e q h p = cc h
turns_in start (DeleteCq qid) e q h p =
    let same : qid ≡ q = eqb-true qid q h in
    let found = delete_cq-found (table_in start e) qid p in
    (subst (λ (n : ℕ). is_some (cq_in e n) ≡ true) same found.1, rw (ne_eqb q 0 (λ z. found.0 (same ∙ z)), h) refl)
turns_in start (CreateCq qid qsize prp1 pc) e q h p =
    let same : qid ≡ q = eqb-true qid q h in
    let found = create_cq-found (table_in start e) qid qsize prp1 pc p in
    (subst (λ (n : ℕ). is_some (cq_in e n) ≡ false) same (ap (λ (o : Option ℕ). is_some o) found.free), rw (ne_eqb q 0 (λ z. found.not_admin (same ∙ z)), h) refl)
turns_in start (Abort sqid cid) e q h p = cc h
turns_in start (SetFeatures fid sv cdw11) e q h p = cc h
turns_in start (GetFeatures fid) e q h p = cc h
turns_in start Other e q h p = cc h

-- an entry that doesn't turn the queue, or is refused, leaves it
pub entry_leaves : (start : Start) (h : TableHistory) (entry : Sqe) (q : ℕ) → (is_success (status_of start h entry) ≡ true → turns_cq (admin_command_of entry) q ≡ false) → cq_at start (EntryApplied entry ∷ h) q ≡ cq_at start h q
unfolding effects_of queue_table status_of
entry_leaves start h entry q none = by (is_success (status_over (table_in start (effects_of start h)) entry)) none where
  by : (b : Bool) → (b ≡ true → turns_cq (admin_command_of entry) q ≡ false) → cq_in (if b then Accepted (admin_command_of entry) ∷ effects_of start h else effects_of start h) q ≡ cq_in (effects_of start h) q
  by true f = leaves_in (admin_command_of entry) (effects_of start h) q (f refl)
  by false f = refl

-- one that is accepted and turns it opens or closes it
pub entry_turns : (start : Start) (h : TableHistory) (entry : Sqe) (q : ℕ) → is_success (status_of start h entry) ≡ true → turns_cq (admin_command_of entry) q ≡ true
    → (is_some (cq_at start h q) ≡ not (opens_cq (admin_command_of entry))) × (is_some (cq_at start (EntryApplied entry ∷ h) q) ≡ opens_cq (admin_command_of entry))
unfolding effects_of queue_table status_of
entry_turns start h entry q success turns = (it.0, rw success it.1) where
  it : (is_some (cq_in (effects_of start h) q) ≡ not (opens_cq (admin_command_of entry))) × (is_some (cq_in (Accepted (admin_command_of entry) ∷ effects_of start h) q) ≡ opens_cq (admin_command_of entry))
  it = turns_in start (admin_command_of entry) (effects_of start h) q turns (status_over-passes (table_in start (effects_of start h)) entry success)

finished_leaves : (start : Start) (h : TableHistory) (qid q : ℕ) → cq_at start (DeletionFinished qid ∷ h) q ≡ cq_at start h q
unfolding effects_of queue_table
finished_leaves start h qid q = refl

-- an event that is no pick leaves it
abbrev pub IsNoPick : Event → Type 0
IsNoPick (event.Pick seen pick) = ⊥
IsNoPick e = Unit {0}

pub event_leaves : (rules : FrontRules) (e : Event) (past : Past) (q : ℕ) → IsNoPick e → cq_at rules.start (table_history rules (e ∷ past)) q ≡ cq_at rules.start (table_history rules past) q
event_leaves rules (event.Pick seen pick) past q n = absurd n
event_leaves rules (event.ClosedSq qid region) past q n = finished_leaves rules.start (table_history rules past) qid q
event_leaves rules e past q n = refl
