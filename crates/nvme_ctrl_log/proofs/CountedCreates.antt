-- What an admin command counts of the queues that were made, and the number of the region of a new queue.
use Rattle.std.proofs.Common.{◌≡◌, ℕ, suc, ◌==◌, Bool, true, false, if◌then◌else◌, Option, Some, None, is_some, refl, sym, ap, ◌∙◌, subst, true≢false, eq-eqb}
use Rattle.std.specs.Prelude.{◌∷◌, List, unwrap_or}
use Rattle.nvme_entry.specs.AdminCommand.{admin_command_of}
use Rattle.nvme_entry.specs.declared.admin.AdminCommand.{AdminCommand}
use Rattle.nvme_entry.specs.declared.admin.AdminCommand.TheVariants as command
use Rattle.nvme_entry.specs.declared.submission.Sqe.{Sqe}
use Rattle.nvme_admin.specs.History.{Start, TableHistory, EntryApplied, Accepted, Placing}
use Rattle.nvme_admin.specs.QueueTable.{QueueTable, table_in, number_by, class_of, number_of_queues}
use Rattle.nvme_admin.specs.Checks.{verdict_after, opened_sq, opened_cq}
use Rattle.nvme_admin.specs.Accepted.{effects_of, queue_table, status_of, verdict_of, is_accepted}
use Rattle.nvme_admin.specs.Steps.{table_after, sq_region_at, cq_region_at}
use Rattle.nvme_admin.specs.Further.{AreSame}
use Rattle.nvme_admin.specs.declared.region.Region.{Region}
use Rattle.nvme_admin.specs.declared.verdict.SqEntry.{SqEntry}
use Rattle.nvme_admin.specs.declared.verdict.Verdict.{Verdict}
use Rattle.nvme_admin.specs.declared.verdict.Verdict.TheVariants as verdict
use Rattle.nvme_admin.proofs.Stepped.{tables-go_by_commands}

-- how many queues of each kind were made, after a verdict
abbrev pub sqs_with : Verdict → ℕ → ℕ
sqs_with (verdict.OpenSq qid region cqid class) n = suc n
sqs_with v n = n

abbrev pub cqs_with : Verdict → ℕ → ℕ
cqs_with (verdict.OpenCq qid region) n = suc n
cqs_with v n = n

-- the region of a queue that a verdict opens is the next of its kind
abbrev pub OpensNext : Verdict → QueueTable → Type 0
OpensNext (verdict.OpenSq qid region cqid class) t = region ≡ suc t.sqs_made
OpensNext (verdict.OpenCq qid region) t = region ≡ suc t.cqs_made
OpensNext v t = Unit {0}

-- the table after a verdict counts its queue, and lets queues lie where they might before
pub record IsCounted (v : Verdict) (t after : QueueTable) : Type 0 where
  pub placing : after.placing ≡ t.placing
  pub sqs : after.sqs_made ≡ sqs_with v t.sqs_made
  pub cqs : after.cqs_made ≡ cqs_with v t.cqs_made
  pub next : is_some t.placing ≡ true → OpensNext v t

-- anywhere the number of a region is the next
next-number : (placing : Option Placing) (made : ℕ) (regions : List Region) (prp1 : ℕ) → is_some placing ≡ true → unwrap_or (number_by placing made regions prp1) 0 ≡ suc made
next-number None made regions prp1 h = absurd (true≢false (sym h))
next-number (Some p) made regions prp1 h = refl

-- an accepted command
accepted-counts : (t after : QueueTable) (given : AdminCommand) → AreSame after (table_after t given) → IsCounted (verdict_after after given) t after
accepted-counts t after (command.CreateSq qid qsize prp1 cqid qprio pc) s =
    let opened : after.sq qid ≡ Some (record { region = sq_region_at t prp1; cqid = cqid; class = class_of qprio; closing = false }) =
    s.alike.sq qid ∙ ap (λ (b : Bool). if b then Some (record { region = sq_region_at t prp1; cqid = cqid; class = class_of qprio; closing = false }) else t.sq qid) (eq-eqb qid qid refl) in
    subst (λ (o : Option SqEntry). IsCounted (opened_sq qid o) t after) (sym opened)
    (record { placing = s.alike.placing; sqs = s.alike.sqs_made; cqs = s.alike.cqs_made; next = λ some. next-number t.placing t.sqs_made t.sq_regions prp1 some })
accepted-counts t after (command.CreateCq qid qsize prp1 pc) s =
    let opened : after.cq qid ≡ Some (cq_region_at t prp1) =
    s.alike.cq qid ∙ ap (λ (b : Bool). if b then Some (cq_region_at t prp1) else t.cq qid) (eq-eqb qid qid refl) in
    subst (λ (o : Option ℕ). IsCounted (opened_cq qid o) t after) (sym opened)
    (record { placing = s.alike.placing; sqs = s.alike.sqs_made; cqs = s.alike.cqs_made; next = λ some. next-number t.placing t.cqs_made t.cq_regions prp1 some })
accepted-counts t after (command.DeleteSq qid) s = record { placing = s.alike.placing; sqs = s.alike.sqs_made; cqs = s.alike.cqs_made; next = λ some. tt }
accepted-counts t after (command.DeleteCq qid) s = record { placing = s.alike.placing; sqs = s.alike.sqs_made; cqs = s.alike.cqs_made; next = λ some. tt }
accepted-counts t after (command.Abort sqid cid) s = record { placing = s.alike.placing; sqs = s.alike.sqs_made; cqs = s.alike.cqs_made; next = λ some. tt }
accepted-counts t after (command.GetFeatures fid) s = record { placing = s.alike.placing; sqs = s.alike.sqs_made; cqs = s.alike.cqs_made; next = λ some. tt }
accepted-counts t after command.Other s = record { placing = s.alike.placing; sqs = s.alike.sqs_made; cqs = s.alike.cqs_made; next = λ some. tt }
accepted-counts t after (command.SetFeatures fid sv cdw11) s = by (fid == number_of_queues) refl where
  by : (b : Bool) → (fid == number_of_queues) ≡ b → IsCounted (verdict_after after (command.SetFeatures fid sv cdw11)) t after
  by true e = rw e (record { placing = s.alike.placing; sqs = s.alike.sqs_made; cqs = s.alike.cqs_made; next = λ some. tt })
  by false e = rw e (record { placing = s.alike.placing; sqs = s.alike.sqs_made; cqs = s.alike.cqs_made; next = λ some. tt })

-- one that isn't accepted changes nothing
refused-same : (start : Start) (h : TableHistory) (entry : Sqe) → is_accepted start h entry ≡ false → queue_table start (EntryApplied entry ∷ h) ≡ queue_table start h
unfolding effects_of queue_table status_of
refused-same start h entry bad = λ i. table_in start (if bad i then Accepted (admin_command_of entry) ∷ effects_of start h else effects_of start h)

-- so each is counted
pub counted : (start : Start) (h : TableHistory) (entry : Sqe) → IsCounted (verdict_of start h entry) (queue_table start h) (queue_table start (EntryApplied entry ∷ h))
unfolding verdict_of
counted start h entry = by (is_accepted start h entry) refl where
  by : (b : Bool) → is_accepted start h entry ≡ b
      → IsCounted (if b then verdict_after (queue_table start (EntryApplied entry ∷ h)) (admin_command_of entry) else verdict.Done (status_of start h entry) 0) (queue_table start h)
      (queue_table start (EntryApplied entry ∷ h))
  by true ok = accepted-counts (queue_table start h) (queue_table start (EntryApplied entry ∷ h)) (admin_command_of entry) (tables-go_by_commands start h entry ok)
  by false bad =
      subst (λ (u : QueueTable). IsCounted (verdict.Done (status_of start h entry) 0) (queue_table start h) u) (sym (refused-same start h entry bad))
      (record { placing = refl; sqs = refl; cqs = refl; next = λ some. tt })
