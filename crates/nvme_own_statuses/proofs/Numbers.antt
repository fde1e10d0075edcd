-- The numbers of queues: once they were told they stay, and none is FFFFh.
use Rattle.std.proofs.Common.{◌≡◌, ℕ, ◌+◌, ◌-◌, ◌*◌, ◌^◌, ◌/◌, ◌%◌, ◌<◌, ◌≤◌, ◌==◌, ◌&&◌, ◌||◌, min, Bool, true, false, if◌then◌else◌, ◌∷◌, ◌++◌, Option, Some, None, is_some, is_none, refl, sym, ap, ◌∙◌, subst, arith, inl, inr}
use Rattle.std.proofs.lemmas.Bool.{cases_Bool, and_parts, or_parts, eqb-false}
use Rattle.std.proofs.lemmas.Option.{none-some, same_Some}
use Rattle.nvme_entry.specs.AdminCommand.{admin_command_of}
use Rattle.nvme_entry.specs.declared.submission.Sqe.{Sqe}
use Rattle.nvme_entry.specs.declared.admin.AdminCommand.{AdminCommand}
use Rattle.nvme_entry.specs.declared.admin.AdminCommand.TheVariants.{DeleteSq, CreateSq, DeleteCq, CreateCq, Abort, SetFeatures, GetFeatures, Other}
use Rattle.nvme_admin.specs.History.{Start, TableHistory, EntryApplied, DeletionFinished, Effects, Accepted}
use Rattle.nvme_admin.specs.QueueTable.{QueueTable, table_in, created_in, first_request_in, nsq_by, ncq_by, number_of_queues, nsqr_of, ncqr_of}
use Rattle.nvme_admin.specs.Checks.{rows_of, status_over, is_success, numbers_dw0, dw0_after}
use Rattle.nvme_admin.specs.Accepted.{effects_of, queue_table, status_of, dw0_of}
use Rattle.nvme_admin.proofs.Reached.{Passes, none-matches, set_numbers-found, status_over-passes, reached}
use Rattle.nvme_log.specs.declared.event.Event.{Event}
use Rattle.nvme_log.specs.declared.event.Event.TheVariants as event
use Rattle.nvme_log.specs.Rules.{FrontRules, Past}
use Rattle.nvme_log.specs.Histories.{table_history, admin_entry, applied}

-- ---- what stays in a table: that a queue was created, and the numbers once they are set
pub record Keeps (a b : QueueTable) : Type 0 where
  pub created : a.created ≡ true → b.created ≡ true
  pub set : a.numbers_set ≡ true → b.numbers_set ≡ true
  pub numbers : a.numbers_set ≡ true → numbers_dw0 b ≡ numbers_dw0 a

keeps_all : (a : QueueTable) → Keeps a a
keeps_all a = record { created = λ h. h; set = λ h. h; numbers = λ h. refl }

-- the first request stays
first_stays : (command : AdminCommand) (e : Effects) → is_some (first_request_in e) ≡ true → first_request_in (Accepted command ∷ e) ≡ first_request_in e
first_stays (SetFeatures fid sv cdw11) e h = rw (some_none (first_request_in e) h) (by (fid == number_of_queues)) where
  some_none : (o : Option ℕ) → is_some o ≡ true → is_none o ≡ false
  some_none None h = cc h
  some_none (Some x) h = refl

  by : (b : Bool) → (if b && false then Some cdw11 else first_request_in e) ≡ first_request_in e
  by true = refl
  by false = refl
first_stays (DeleteSq qid) e h = refl
first_stays (CreateSq qid qsize prp1 cqid qprio pc) e h = refl
first_stays (DeleteCq qid) e h = refl
first_stays (CreateCq qid qsize prp1 pc) e h = refl
first_stays (Abort sqid cid) e h = refl
first_stays (GetFeatures fid) e h = refl
first_stays Other e h = refl

created_stays : (command : AdminCommand) (e : Effects) → created_in e ≡ true → created_in (Accepted command ∷ e) ≡ true
created_stays (DeleteSq qid) e h = h
created_stays (CreateSq qid qsize prp1 cqid qprio pc) e h = refl
created_stays (DeleteCq qid) e h = h
created_stays (CreateCq qid qsize prp1 pc) e h = refl
created_stays (Abort sqid cid) e h = h
created_stays (SetFeatures fid sv cdw11) e h = h
created_stays (GetFeatures fid) e h = h
created_stays Other e h = h

keeps_command : (start : Start) (command : AdminCommand) (e : Effects) → Keeps (table_in start e) (table_in start (Accepted command ∷ e))
keeps_command start command e = record {
  created = created_stays command e;
  set = λ h. ap (λ (o : Option ℕ). is_some o) (first_stays command e h) ∙ h;
  numbers = λ h. ap (λ (o : Option ℕ). (nsq_by start o - 1) + 2 ^ 16 * (ncq_by start o - 1)) (first_stays command e h);
}

pub keeps_entry : (start : Start) (h : TableHistory) (entry : Sqe) → Keeps (queue_table start h) (queue_table start (EntryApplied entry ∷ h))
unfolding effects_of queue_table
keeps_entry start h entry = by (is_success (status_over (table_in start (effects_of start h)) entry)) where
  by : (b : Bool) → Keeps (table_in start (effects_of start h)) (table_in start (if b then Accepted (admin_command_of entry) ∷ effects_of start h else effects_of start h))
  by true = keeps_command start (admin_command_of entry) (effects_of start h)
  by false = keeps_all (table_in start (effects_of start h))

keeps_finished : (start : Start) (h : TableHistory) (qid : ℕ) → Keeps (queue_table start h) (queue_table start (DeletionFinished qid ∷ h))
unfolding effects_of queue_table
keeps_finished start h qid = record { created = λ h. h; set = λ h. h; numbers = λ h. refl }

pub keeps_event : (rules : FrontRules) (e : Event) (past : Past) → Keeps (queue_table rules.start (table_history rules past)) (queue_table rules.start (table_history rules (e ∷ past)))
keeps_event rules (event.Pick seen pick) past = by (pick.qid == 0) (admin_entry past) where
  by : (b : Bool) (o : Option Sqe) → Keeps (queue_table rules.start (table_history rules past)) (queue_table rules.start (if b then applied o ++ table_history rules past else table_history rules past))
  by false o = keeps_all (queue_table rules.start (table_history rules past))
  by true None = keeps_all (queue_table rules.start (table_history rules past))
  by true (Some entry) = keeps_entry rules.start (table_history rules past) entry
keeps_event rules (event.ClosedSq qid region) past = keeps_finished rules.start (table_history rules past) qid
keeps_event rules e past = keeps_all (queue_table rules.start (table_history rules past))

-- ---- what an accepted command leaves
-- a Create
abbrev pub is_create : AdminCommand → Bool
is_create (CreateSq qid qsize prp1 cqid qprio pc) = true
is_create (CreateCq qid qsize prp1 pc) = true
is_create command = false

created_now : (command : AdminCommand) (e : Effects) → is_create command ≡ true → created_in (Accepted command ∷ e) ≡ true
created_now (DeleteSq qid) e h = cc h
created_now (CreateSq qid qsize prp1 cqid qprio pc) e h = refl
created_now (DeleteCq qid) e h = cc h
created_now (CreateCq qid qsize prp1 pc) e h = refl
created_now (Abort sqid cid) e h = cc h
created_now (SetFeatures fid sv cdw11) e h = cc h
created_now (GetFeatures fid) e h = cc h
created_now Other e h = cc h

pub create_leaves : (start : Start) (h : TableHistory) (entry : Sqe) → is_success (status_of start h entry) ≡ true → is_create (admin_command_of entry) ≡ true → (queue_table start (EntryApplied entry ∷ h)).created ≡ true
unfolding effects_of queue_table status_of
create_leaves start h entry s is = rw s (created_now (admin_command_of entry) (effects_of start h) is)

-- a Set of Number of Queues
first_now : (sv : Bool) (cdw11 : ℕ) (e : Effects) → is_some (first_request_in (Accepted (SetFeatures number_of_queues sv cdw11) ∷ e)) ≡ true
first_now sv cdw11 e = by (first_request_in e) where
  by : (o : Option ℕ) → is_some (if is_none o then Some cdw11 else o) ≡ true
  by None = refl
  by (Some x) = refl

pub set_leaves : (start : Start) (h : TableHistory) (entry : Sqe) (sv : Bool) (cdw11 : ℕ) → is_success (status_of start h entry) ≡ true → admin_command_of entry ≡ SetFeatures number_of_queues sv cdw11
    → ((queue_table start (EntryApplied entry ∷ h)).numbers_set ≡ true) × (dw0_of start h entry ≡ numbers_dw0 (queue_table start (EntryApplied entry ∷ h)))
unfolding effects_of queue_table status_of dw0_of
set_leaves start h entry sv cdw11 s is = (
  rw s (ap (λ (c : AdminCommand). is_some (first_request_in (Accepted c ∷ effects_of start h))) is ∙ first_now sv cdw11 (effects_of start h)),
  by (is_success (status_over (table_in start (effects_of start h)) entry)) s,
) where
  by : (b : Bool) → b ≡ true
      → (if b then dw0_after (table_in start (if b then Accepted (admin_command_of entry) ∷ effects_of start h else effects_of start h)) (admin_command_of entry) else 0)
      ≡ numbers_dw0 (table_in start (if b then Accepted (admin_command_of entry) ∷ effects_of start h else effects_of start h))
  by true e = ap (dw0_after (table_in start (Accepted (admin_command_of entry) ∷ effects_of start h))) is
  by false e = cc e

pub set_uncreated : (start : Start) (h : TableHistory) (entry : Sqe) (sv : Bool) (cdw11 : ℕ) → is_success (status_of start h entry) ≡ true → admin_command_of entry ≡ SetFeatures number_of_queues sv cdw11 → (queue_table start h).created ≡ false
unfolding status_of queue_table
set_uncreated start h entry sv cdw11 s is =
    set_numbers-found (table_in start (effects_of start h)) sv cdw11 (subst (Passes (table_in start (effects_of start h))) is (status_over-passes (table_in start (effects_of start h)) entry s))

-- ---- no number is FFFFh
abbrev AreFew : Effects → Type 0
AreFew e = (x : ℕ) → first_request_in e ≡ Some x → (nsqr_of x < 0xffff) × (ncqr_of x < 0xffff)

below : (n : ℕ) → n < 0x10000 → (n == 0xffff) ≡ false → n < 0xffff
below n lt h = let other : n ≡ 0xffff → ⊥ = eqb-false n 0xffff h in omega (arith, lt, other)

few_set : (t : QueueTable) (fid x : ℕ) (sv : Bool) → (fid == number_of_queues) ≡ true → Passes t (SetFeatures fid sv x) → (nsqr_of x < 0xffff) × (ncqr_of x < 0xffff)
few_set t fid x sv own h =
    let r = none-matches (rows_of t (SetFeatures fid sv x)) (refl, (refl, (refl, (refl, tt)))) h in
    let none : (nsqr_of x == 0xffff || ncqr_of x == 0xffff) ≡ false = subst (λ (b : Bool). (b && (nsqr_of x == 0xffff || ncqr_of x == 0xffff)) ≡ false) own r.1.1.1.0 in
    let parts = or_parts (nsqr_of x == 0xffff) (ncqr_of x == 0xffff) none in
    (below (nsqr_of x) (omega arith) parts.0, below (ncqr_of x) (omega arith) parts.1)

few_command : (t : QueueTable) (e : Effects) (command : AdminCommand) → AreFew e → Passes t command → AreFew (Accepted command ∷ e)
few_command t e (SetFeatures fid sv cdw11) before h = λ x is. elim (cases_Bool (fid == number_of_queues && is_none (first_request_in e))) [
  | inl new ↦
      let same : cdw11 ≡ x = same_Some cdw11 x (sym (λ i. if new i then Some cdw11 else first_request_in e) ∙ is) in
      subst (λ (z : ℕ). (nsqr_of z < 0xffff) × (ncqr_of z < 0xffff)) same (few_set t fid cdw11 sv (and_parts (fid == number_of_queues) (is_none (first_request_in e)) new).0 h)
  | inr old ↦ before x (sym (λ i. if old i then Some cdw11 else first_request_in e) ∙ is)
]
few_command t e (DeleteSq qid) before h = before
few_command t e (CreateSq qid qsize prp1 cqid qprio pc) before h = before
few_command t e (DeleteCq qid) before h = before
few_command t e (CreateCq qid qsize prp1 pc) before h = before
few_command t e (Abort sqid cid) before h = before
few_command t e (GetFeatures fid) before h = before
few_command t e Other before h = before

few_after : (start : Start) (h : TableHistory) → AreFew (effects_of start h)
few_after start h =
    reached start AreFew (λ x is. absurd (none-some x is)) (λ e kind address slots p. p) (λ e command p passes. few_command (table_in start e) e command p passes) (λ e qid p. p) (λ e placing p. p) h

-- both halves of what is told
halves : (a b : ℕ) → a < 0xffff → b < 0xffff → ((a + 2 ^ 16 * b) % 0x10000 < 0xffff) × ((a + 2 ^ 16 * b) / 0x10000 < 0xffff)
halves a b fa fb = (omega (arith, fa, fb), omega (arith, fa, fb))

pub few_numbers : (start : Start) (h : TableHistory) → (queue_table start h).numbers_set ≡ true → (numbers_dw0 (queue_table start h) % 0x10000 < 0xffff) × (numbers_dw0 (queue_table start h) / 0x10000 < 0xffff)
unfolding queue_table
few_numbers start h set = by (first_request_in (effects_of start h)) (few_after start h) set where
  by : (o : Option ℕ) → ((x : ℕ) → o ≡ Some x → (nsqr_of x < 0xffff) × (ncqr_of x < 0xffff)) → is_some o ≡ true
      → (((nsq_by start o - 1) + 2 ^ 16 * (ncq_by start o - 1)) % 0x10000 < 0xffff) × (((nsq_by start o - 1) + 2 ^ 16 * (ncq_by start o - 1)) / 0x10000 < 0xffff)
  by None f s = cc s
  by (Some x) f s =
      let both = f x refl in
      halves (min (nsqr_of x + 1) start.nsq - 1) (min (ncqr_of x + 1) start.ncq - 1) (omega (arith, both.0)) (omega (arith, both.1))

-- ---- allotted queues
most_sqs : (start : Start) (o : Option ℕ) → nsq_by start o ≤ nsq_by start None
most_sqs start None = omega arith
most_sqs start (Some x) = omega arith

most_cqs : (start : Start) (o : Option ℕ) → ncq_by start o ≤ ncq_by start None
most_cqs start None = omega arith
most_cqs start (Some x) = omega arith

-- what is most before any request isn't more after the first
module _ (F : Option ℕ → ℕ) (most : (o : Option ℕ) → F o ≤ F None) where
  fewer_command : (command : AdminCommand) (e : Effects) → F (first_request_in (Accepted command ∷ e)) ≤ F (first_request_in e)
  fewer_command command e = by (first_request_in e) refl where
    by : (o : Option ℕ) → first_request_in e ≡ o → F (first_request_in (Accepted command ∷ e)) ≤ F (first_request_in e)
    by None none = (let all : F (first_request_in e) ≡ F None = ap F none in omega (arith, all, most (first_request_in (Accepted command ∷ e))))
    by (Some x) some = (let same = ap F (first_stays command e (ap (λ (o : Option ℕ). is_some o) some)) in omega (arith, same))

  fewer_entry : (start : Start) (h : TableHistory) (entry : Sqe) → F (first_request_in (effects_of start (EntryApplied entry ∷ h))) ≤ F (first_request_in (effects_of start h))
  unfolding effects_of
  fewer_entry start h entry = by (is_success (status_over (table_in start (effects_of start h)) entry)) where
    by : (b : Bool) → F (first_request_in (if b then Accepted (admin_command_of entry) ∷ effects_of start h else effects_of start h)) ≤ F (first_request_in (effects_of start h))
    by true = fewer_command (admin_command_of entry) (effects_of start h)
    by false = omega arith

  fewer_finished : (start : Start) (h : TableHistory) (qid : ℕ) → F (first_request_in (effects_of start (DeletionFinished qid ∷ h))) ≤ F (first_request_in (effects_of start h))
  unfolding effects_of
  fewer_finished start h qid = omega arith

  fewer_requests : (rules : FrontRules) (e : Event) (past : Past) → F (first_request_in (effects_of rules.start (table_history rules (e ∷ past)))) ≤ F (first_request_in (effects_of rules.start (table_history rules past)))
  fewer_requests rules (event.Pick seen pick) past = by (pick.qid == 0) (admin_entry past) where
    by : (b : Bool) (o : Option Sqe) → F (first_request_in (effects_of rules.start (if b then applied o ++ table_history rules past else table_history rules past))) ≤ F (first_request_in (effects_of rules.start (table_history rules past)))
    by false o = omega arith
    by true None = omega arith
    by true (Some entry) = fewer_entry rules.start (table_history rules past) entry
  fewer_requests rules (event.ClosedSq qid region) past = fewer_finished rules.start (table_history rules past) qid
  fewer_requests rules e past = omega arith

pub fewer_sqs : (rules : FrontRules) (e : Event) (past : Past) → (queue_table rules.start (table_history rules (e ∷ past))).nsq ≤ (queue_table rules.start (table_history rules past)).nsq
unfolding queue_table
fewer_sqs rules e past = fewer_requests (nsq_by rules.start) (most_sqs rules.start) rules e past

pub fewer_cqs : (rules : FrontRules) (e : Event) (past : Past) → (queue_table rules.start (table_history rules (e ∷ past))).ncq ≤ (queue_table rules.start (table_history rules past)).ncq
unfolding queue_table
fewer_cqs rules e past = fewer_requests (ncq_by rules.start) (most_cqs rules.start) rules e past

pub some_sqs : (start : Start) (h : TableHistory) → 0 < start.nsq → 0 < (queue_table start h).nsq
unfolding queue_table
some_sqs start h some = by (first_request_in (effects_of start h)) where
  by : (o : Option ℕ) → 0 < nsq_by start o
  by None = some
  by (Some x) = omega (arith, some)

pub some_cqs : (start : Start) (h : TableHistory) → 0 < start.ncq → 0 < (queue_table start h).ncq
unfolding queue_table
some_cqs start h some = by (first_request_in (effects_of start h)) where
  by : (o : Option ℕ) → 0 < ncq_by start o
  by None = some
  by (Some x) = omega (arith, some)

pub cqs_told : (start : Start) (h : TableHistory) → (queue_table start h).numbers_set ≡ true → numbers_dw0 (queue_table start h) / 0x10000 ≡ (queue_table start h).ncq - 1
unfolding queue_table
cqs_told start h set = by (first_request_in (effects_of start h)) (few_after start h) set where
  half : (a b : ℕ) → a < 0xffff → (a + 2 ^ 16 * b) / 0x10000 ≡ b
  half a b few = omega (arith, few)

  by : (o : Option ℕ) → ((x : ℕ) → o ≡ Some x → (nsqr_of x < 0xffff) × (ncqr_of x < 0xffff)) → is_some o ≡ true → ((nsq_by start o - 1) + 2 ^ 16 * (ncq_by start o - 1)) / 0x10000 ≡ ncq_by start o - 1
  by None f s = cc s
  by (Some x) f s = (let both = f x refl in half (min (nsqr_of x + 1) start.nsq - 1) (min (ncqr_of x + 1) start.ncq - 1) (omega (arith, both.0)))

pub sqs_told : (start : Start) (h : TableHistory) → (queue_table start h).numbers_set ≡ true → numbers_dw0 (queue_table start h) % 0x10000 ≡ (queue_table start h).nsq - 1
unfolding queue_table
sqs_told start h set = by (first_request_in (effects_of start h)) (few_after start h) set where
  half : (a b : ℕ) → a < 0xffff → (a + 2 ^ 16 * b) % 0x10000 ≡ a
  half a b few = omega (arith, few)

  by : (o : Option ℕ) → ((x : ℕ) → o ≡ Some x → (nsqr_of x < 0xffff) × (ncqr_of x < 0xffff)) → is_some o ≡ true → ((nsq_by start o - 1) + 2 ^ 16 * (ncq_by start o - 1)) % 0x10000 ≡ nsq_by start o - 1
  by None f s = cc s
  by (Some x) f s = (let both = f x refl in half (min (nsqr_of x + 1) start.nsq - 1) (min (ncqr_of x + 1) start.ncq - 1) (omega (arith, both.0)))
