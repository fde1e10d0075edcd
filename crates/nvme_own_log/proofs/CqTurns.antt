-- Which admin commands turn a completion queue.
use Rattle.std.proofs.Common.{◌≡◌, ℕ, ◌+◌, ◌==◌, Bool, true, false, if◌then◌else◌, List, [], ◌∷◌, ◌++◌, length, Option, Some, None, refl, ap, ◌∙◌, inl, inr}
use Rattle.std.specs.Prelude.{unwrap_or}
use Rattle.std.proofs.lemmas.Bool.{cases_eq, ne_eqb}
use Rattle.nvme_entry.specs.Status.{StatusCode}
use Rattle.nvme_entry.specs.AdminCommand.{admin_command_of}
use Rattle.nvme_entry.specs.declared.submission.Sqe.{Sqe}
use Rattle.nvme_entry.specs.declared.admin.AdminCommand.{AdminCommand}
use Rattle.nvme_entry.specs.declared.admin.AdminCommand.TheVariants.{DeleteSq, CreateSq, DeleteCq, CreateCq, Abort, SetFeatures, GetFeatures, Other}
use Rattle.nvme_arbiter.specs.Settings.{ArbitrationFields}
use Rattle.nvme_admin.specs.declared.region.Region.{Region}
use Rattle.nvme_admin.specs.declared.verdict.SqEntry.{SqEntry}
use Rattle.nvme_admin.specs.declared.verdict.Verdict.{Verdict}
use Rattle.nvme_admin.specs.declared.verdict.Verdict.TheVariants as verdict
use Rattle.nvme_admin.specs.History.{Start, TableHistory, Placing, Effects, Accepted}
use Rattle.nvme_admin.specs.QueueTable.{table_in, number_of_queues, placing_in, number_by, cq_named_in, cq_in, cq_regions_in}
use Rattle.nvme_admin.specs.Checks.{is_success, status_over, verdict_after, opened_sq, opened_cq}
use Rattle.nvme_admin.specs.Accepted.{effects_of, queue_table, status_of, verdict_of}
use Rattle.nvme_admin.proofs.Changed.{at-own}
use Rattle.nvme_admin.proofs.Reached.{Passes, create_cq-found, create_cq-asked, status_over-passes}
use Rattle.nvme_log.specs.declared.event.Event.TheVariants as event
use Rattle.nvme_log.specs.Rules.{FrontRules, Past, cq_regions_of, slots_at}
use Rattle.nvme_log.specs.Histories.{table_history, admin_entry, applied}
use Rattle.nvme_audit.specs.Queues.{turns_cq}
use Rattle.nvme_own_log.proofs.AdminTurns.{slots_get}

-- where its check has come out so, its verdict opens this completion queue, closes it, or does neither
pub data CqTurn (placing : Option Placing) (regions : List Region) (v : Verdict) (command : AdminCommand) (b : Bool) (q : ℕ) : Type 0 where
  opens : (qsize prp1 : ℕ) (pc : Bool) (region : ℕ) → b ≡ true → command ≡ CreateCq q qsize prp1 pc → v ≡ verdict.OpenCq q region → (placing ≡ None → slots_at regions region ≡ qsize + 1) → CqTurn placing regions v command b q
  closes : b ≡ true → command ≡ DeleteCq q → v ≡ verdict.CloseCq q → CqTurn placing regions v command b q
  neither : ((region : ℕ) → v ≡ verdict.OpenCq q region → ⊥) → (v ≡ verdict.CloseCq q → ⊥) → (b ≡ true → turns_cq command q ≡ false) → CqTurn placing regions v command b q

opened_is : (qid q region : ℕ) (o : Option ℕ) → opened_cq qid o ≡ verdict.OpenCq q region → qid ≡ q
opened_is qid q region None e = cc e
opened_is qid q region (Some r) e = cc e

opened_closes : (qid q : ℕ) (o : Option ℕ) → opened_cq qid o ≡ verdict.CloseCq q → ⊥
opened_closes qid q None e = cc e
opened_closes qid q (Some r) e = cc e

opened_sq_is : (qid q region : ℕ) (o : Option SqEntry) → opened_sq qid o ≡ verdict.OpenCq q region → ⊥
opened_sq_is qid q region None e = cc e
opened_sq_is qid q region (Some queue) e = cc e

opened_sq_closes : (qid q : ℕ) (o : Option SqEntry) → opened_sq qid o ≡ verdict.CloseCq q → ⊥
opened_sq_closes qid q None e = cc e
opened_sq_closes qid q (Some queue) e = cc e

sets_is : (b : Bool) (status : StatusCode) (dw0 : ℕ) (settings : ArbitrationFields) (q region : ℕ) → (if b then verdict.Done status dw0 else verdict.SetArbitration settings) ≡ verdict.OpenCq q region → ⊥
sets_is true status dw0 settings q region e = cc e
sets_is false status dw0 settings q region e = cc e

sets_closes : (b : Bool) (status : StatusCode) (dw0 : ℕ) (settings : ArbitrationFields) (q : ℕ) → (if b then verdict.Done status dw0 else verdict.SetArbitration settings) ≡ verdict.CloseCq q → ⊥
sets_closes true status dw0 settings q e = cc e
sets_closes false status dw0 settings q e = cc e

module _ (start : Start) (e : Effects) (q : ℕ) where
  turn_by : (command : AdminCommand) → Passes (table_in start e) command → CqTurn (placing_in e) (cq_regions_in e) (verdict_after (table_in start (Accepted command ∷ e)) command) command true q
  turn_by (CreateCq qid qsize prp1 pc) h = elim (cases_eq qid q) [
    | inl same ↦
        let found = create_cq-found (table_in start e) qid qsize prp1 pc h in
        let region : ℕ = unwrap_or (number_by (placing_in e) (length (cq_named_in e)) (cq_regions_in e) prp1) 0 in
        let opened : opened_cq qid (cq_in (Accepted (CreateCq qid qsize prp1 pc) ∷ e) qid) ≡ verdict.OpenCq qid region = ap (λ (o : Option ℕ). opened_cq qid o) (at-own qid _ _ _ found.not_admin) in
        opens qsize prp1 pc region refl (ap (λ (k : ℕ). CreateCq k qsize prp1 pc) same) (opened ∙ ap (λ (k : ℕ). verdict.OpenCq k region) same)
        (λ by_regions. let asked = create_cq-asked (table_in start e) qid qsize prp1 pc by_regions h in
        let number : region ≡ asked.0 = ap (λ (o : Option ℕ). unwrap_or o 0) asked.1 in
        ap (slots_at (cq_regions_in e)) number ∙ slots_get (cq_regions_in e) asked.0 (record { address = prp1; slots = qsize + 1 }) asked.2)
    | inr other ↦ neither (λ region is. other (opened_is qid q region _ is)) (opened_closes qid q _) (λ yes. ne_eqb qid q other)
  ]
  turn_by (DeleteCq qid) h = elim (cases_eq qid q) [
    | inl same ↦ closes refl (ap (λ (k : ℕ). DeleteCq k) same) (ap (λ (k : ℕ). verdict.CloseCq k) same)
    | inr other ↦ neither (λ region is. cc is) (λ is. other (cc is)) (λ yes. ne_eqb qid q other)
  ]
  turn_by (CreateSq qid qsize prp1 cqid qprio pc) h = neither (λ region is. opened_sq_is qid q region _ is) (opened_sq_closes qid q _) (λ yes. refl)
  turn_by (DeleteSq qid) h = neither (λ region is. cc is) (λ is. cc is) (λ yes. refl)
  turn_by (Abort sqid cid) h = neither (λ region is. cc is) (λ is. cc is) (λ yes. refl)
  turn_by (SetFeatures fid sv cdw11) h = neither (λ region is. sets_is (fid == number_of_queues) _ _ _ q region is) (sets_closes (fid == number_of_queues) _ _ _ q) (λ yes. refl)
  turn_by (GetFeatures fid) h = neither (λ region is. cc is) (λ is. cc is) (λ yes. refl)
  turn_by Other h = neither (λ region is. cc is) (λ is. cc is) (λ yes. refl)

  turn_if : (command : AdminCommand) (status : StatusCode) (b : Bool) → (b ≡ true → Passes (table_in start e) command)
      → CqTurn (placing_in e) (cq_regions_in e) (if b then verdict_after (table_in start (if b then Accepted command ∷ e else e)) command else verdict.Done status 0) command b q
  turn_if command status true passes = turn_by command (passes refl)
  turn_if command status false passes = neither (λ region is. cc is) (λ is. cc is) (λ yes. cc yes)

pub cq_turn_of : (start : Start) (h : TableHistory) (entry : Sqe) (q : ℕ)
    → CqTurn (queue_table start h).placing (queue_table start h).cq_regions (verdict_of start h entry) (admin_command_of entry) (is_success (status_of start h entry)) q
unfolding effects_of queue_table status_of verdict_of
cq_turn_of start h entry q =
    let e : Effects = effects_of start h in
    let status : StatusCode = status_over (table_in start e) entry in
    turn_if start e q (admin_command_of entry) status (is_success status) (status_over-passes (table_in start e) entry)

-- the regions of a table stay those of its rules
pub cq_regions_stay : (rules : FrontRules) (past : Past) → (queue_table rules.start (table_history rules past)).cq_regions ≡ cq_regions_of rules
unfolding effects_of queue_table
cq_regions_stay rules [] = refl
cq_regions_stay rules (event.Pick seen pick ∷ past) = by (pick.qid == 0) (admin_entry past) (cq_regions_stay rules past) where
  applies : (b : Bool) (command : AdminCommand) (e : Effects) → cq_regions_in (if b then Accepted command ∷ e else e) ≡ cq_regions_in e
  applies true command e = refl
  applies false command e = refl

  by : (b : Bool) (o : Option Sqe) → (queue_table rules.start (table_history rules past)).cq_regions ≡ cq_regions_of rules
      → (queue_table rules.start (if b then applied o ++ table_history rules past else table_history rules past)).cq_regions ≡ cq_regions_of rules
  by false o before = before
  by true None before = before
  by true (Some entry) before = applies _ (admin_command_of entry) (effects_of rules.start (table_history rules past)) ∙ before
cq_regions_stay rules (event.ClosedSq qid region ∷ past) = cq_regions_stay rules past
cq_regions_stay rules (e ∷ past) = cq_regions_stay rules past
