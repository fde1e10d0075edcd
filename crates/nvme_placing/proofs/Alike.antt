-- A table and a queue table that have the same queues: the checks, the verdicts and the tables after a command are alike.
use Rattle.std.proofs.Common.{◌≡◌, ℕ, ◌+◌, ◌==◌, ◌||◌, ◌&&◌, Bool, true, false, not, min, if◌then◌else◌, [], ◌∷◌, Option, Some, None, is_some, is_none, option_map, refl, sym, ◌∙◌, ap, true≢false}
use Rattle.nvme_entry.specs.Status.{StatusCode, invalid_field, sequence_error, invalid_queue_identifier, invalid_queue_deletion, feature_not_saveable}
use Rattle.nvme_entry.specs.AdminCommand.{admin_command_of, qid_of, qsize_of, cqid_of, qprio_of, pc_of, sqid_of, cid_of, fid_of, sv_of}
use Rattle.nvme_entry.specs.declared.submission.Sqe.{Sqe}
use Rattle.nvme_entry.specs.declared.admin.AdminCommand.{AdminCommand}
use Rattle.nvme_entry.specs.declared.admin.AdminCommand.TheVariants.{DeleteSq, CreateSq, DeleteCq, CreateCq, Abort, SetFeatures, GetFeatures, Other}
use Rattle.nvme_arbiter.specs.Settings.{settings_of}
use Rattle.nvme_admin.specs.declared.bounds.TheConstants.{MAX_REGIONS}
use Rattle.nvme_admin.specs.declared.verdict.SqEntry.{SqEntry}
use Rattle.nvme_admin.specs.declared.verdict.Verdict.{Verdict}
use Rattle.nvme_admin.specs.declared.verdict.Verdict.TheVariants.{Done}
use Rattle.nvme_admin.specs.QueueTable.{QueueTable, arbitration, number_of_queues, nsqr_of, ncqr_of, as_closing, unless_closing}
use Rattle.nvme_admin.specs.Checks.{row, rows_of, some_below, attaches, is_open, is_success, verdict_by, verdict_after, opened_sq, opened_cq}
use Rattle.nvme_admin.specs.Steps.{table_after}
use Rattle.nvme_admin.specs.Standing.{TableView, Shows, table_of, sq_of, cq_of}
use Rattle.nvme_placing.specs.Telling.{unplaced, unplaced_verdict}
use Rattle.nvme_placing.specs.inside.Carrying.{HasQueues}

-- ---- queues, wherever they lie
-- what a test says of a queue, it says of the queue wherever it lies
pub same-of : {B : Type 0} (f : Option SqEntry → B) → ((o : Option SqEntry) → f (option_map unplaced o) ≡ f o)
    → (a b : Option SqEntry) → option_map unplaced a ≡ option_map unplaced b → f a ≡ f b
same-of f same a b e = sym (same a) ∙ ap f e ∙ same b

some-unplaced : (o : Option SqEntry) → is_some (option_map unplaced o) ≡ is_some o
some-unplaced None = refl
some-unplaced (Some queue) = refl

open-unplaced : (o : Option SqEntry) → is_open (option_map unplaced o) ≡ is_open o
open-unplaced None = refl
open-unplaced (Some queue) = refl

attaches-unplaced : (cqid : ℕ) (o : Option SqEntry) → attaches cqid (option_map unplaced o) ≡ attaches cqid o
attaches-unplaced cqid None = refl
attaches-unplaced cqid (Some queue) = refl

opened-unplaced : (qid : ℕ) (o : Option SqEntry) → unplaced_verdict (opened_sq qid (option_map unplaced o)) ≡ unplaced_verdict (opened_sq qid o)
opened-unplaced qid None = refl
opened-unplaced qid (Some queue) = refl

closing-unplaced : (o : Option SqEntry) → option_map unplaced (option_map as_closing (option_map unplaced o)) ≡ option_map unplaced (option_map as_closing o)
closing-unplaced None = refl
closing-unplaced (Some queue) = refl

gone-either : (b : Bool) (queue : SqEntry) → option_map unplaced (if b then None else Some (unplaced queue)) ≡ option_map unplaced (if b then None else Some queue)
gone-either true queue = refl
gone-either false queue = refl

pub gone-unplaced : (o : Option SqEntry) → option_map unplaced (unless_closing (option_map unplaced o)) ≡ option_map unplaced (unless_closing o)
gone-unplaced None = refl
gone-unplaced (Some queue) = gone-either queue.closing queue

none-alike : (a b : Option ℕ) → is_some a ≡ is_some b → is_none a ≡ is_none b
none-alike None None e = refl
none-alike (Some m) (Some n) e = refl
none-alike None (Some n) e = absurd (true≢false (sym e))
none-alike (Some m) None e = absurd (true≢false e)

opened_cq-alike : (qid : ℕ) (a b : Option ℕ) → is_some a ≡ is_some b → unplaced_verdict (opened_cq qid a) ≡ unplaced_verdict (opened_cq qid b)
opened_cq-alike qid None None e = refl
opened_cq-alike qid (Some m) (Some n) e = refl
opened_cq-alike qid None (Some n) e = absurd (true≢false (sym e))
opened_cq-alike qid (Some m) None e = absurd (true≢false e)

pub sq-either : (b : Bool) (x y u w : Option SqEntry) → option_map unplaced x ≡ option_map unplaced y → option_map unplaced u ≡ option_map unplaced w
    → option_map unplaced (if b then x else u) ≡ option_map unplaced (if b then y else w)
sq-either true x y u w e f = e
sq-either false x y u w e f = f

cq-either : (b : Bool) (x y u w : Option ℕ) → is_some x ≡ is_some y → is_some u ≡ is_some w → is_some (if b then x else u) ≡ is_some (if b then y else w)
cq-either true x y u w e f = e
cq-either false x y u w e f = f

-- ---- commands of another PRP1
-- a command that asks for another address
abbrev pub with_prp1 : ℕ → AdminCommand → AdminCommand
with_prp1 x (CreateSq qid qsize prp1 cqid qprio pc) = CreateSq qid qsize x cqid qprio pc
with_prp1 x (CreateCq qid qsize prp1 pc) = CreateCq qid qsize x pc
with_prp1 x command = command

by-opcode : (b0 b1 b4 b5 b8 b9 ba : Bool) (x : ℕ) (entry : Sqe)
    → (if b0 then DeleteSq (qid_of entry)
    else (if b1 then CreateSq (qid_of entry) (qsize_of entry) x (cqid_of entry) (qprio_of entry) (pc_of entry)
    else (if b4 then DeleteCq (qid_of entry)
    else (if b5 then CreateCq (qid_of entry) (qsize_of entry) x (pc_of entry)
    else (if b8 then Abort (sqid_of entry) (cid_of entry)
    else (if b9 then SetFeatures (fid_of entry) (sv_of entry) entry.cdw11
    else (if ba then GetFeatures (fid_of entry)
    else Other)))))))
    ≡ with_prp1 x (if b0 then DeleteSq (qid_of entry)
    else (if b1 then CreateSq (qid_of entry) (qsize_of entry) entry.prp1 (cqid_of entry) (qprio_of entry) (pc_of entry)
    else (if b4 then DeleteCq (qid_of entry)
    else (if b5 then CreateCq (qid_of entry) (qsize_of entry) entry.prp1 (pc_of entry)
    else (if b8 then Abort (sqid_of entry) (cid_of entry)
    else (if b9 then SetFeatures (fid_of entry) (sv_of entry) entry.cdw11
    else (if ba then GetFeatures (fid_of entry)
    else Other)))))))
by-opcode true b1 b4 b5 b8 b9 ba x entry = refl
by-opcode false true b4 b5 b8 b9 ba x entry = refl
by-opcode false false true b5 b8 b9 ba x entry = refl
by-opcode false false false true b8 b9 ba x entry = refl
by-opcode false false false false true b9 ba x entry = refl
by-opcode false false false false false true ba x entry = refl
by-opcode false false false false false false true x entry = refl
by-opcode false false false false false false false x entry = refl

pub placed-command : (x : ℕ) (entry : Sqe) → admin_command_of (record entry { prp1 = x }) ≡ with_prp1 x (admin_command_of entry)
placed-command x entry =
    by-opcode (entry.opcode == 0x00) (entry.opcode == 0x01) (entry.opcode == 0x04) (entry.opcode == 0x05) (entry.opcode == 0x08) (entry.opcode == 0x09) (entry.opcode == 0x0a) x entry

-- a command that isn't a Create
abbrev pub is_create : AdminCommand → Bool
is_create (CreateSq qid qsize prp1 cqid qprio pc) = true
is_create (CreateCq qid qsize prp1 pc) = true
is_create command = false

pub not-create : (command : AdminCommand) → ((qid qsize prp1 cqid qprio : ℕ) (pc : Bool) → command ≡ CreateSq qid qsize prp1 cqid qprio pc → ⊥)
    → ((qid qsize prp1 : ℕ) (pc : Bool) → command ≡ CreateCq qid qsize prp1 pc → ⊥) → is_create command ≡ false
not-create (CreateSq qid qsize prp1 cqid qprio pc) sq cq = absurd (sq qid qsize prp1 cqid qprio pc refl)
not-create (CreateCq qid qsize prp1 pc) sq cq = absurd (cq qid qsize prp1 pc refl)
not-create (DeleteSq qid) sq cq = refl
not-create (DeleteCq qid) sq cq = refl
not-create (SetFeatures fid sv cdw11) sq cq = refl
not-create (GetFeatures fid) sq cq = refl
not-create (Abort sqid cid) sq cq = refl
not-create Other sq cq = refl

module _ (v : TableView) (t : QueueTable) (s : HasQueues v t) where
  pub sq-some : (q : ℕ) → is_some (sq_of v q) ≡ is_some (t.sq q)
  sq-some q = same-of is_some some-unplaced (sq_of v q) (t.sq q) (s.sq q)

  pub cq-none : (q : ℕ) → is_none (cq_of v q) ≡ is_none (t.cq q)
  cq-none q = none-alike (cq_of v q) (t.cq q) (s.cq q)

  sq-open : (q : ℕ) → is_open (sq_of v q) ≡ is_open (t.sq q)
  sq-open q = same-of is_open open-unplaced (sq_of v q) (t.sq q) (s.sq q)

  sq-attaches : (cqid q : ℕ) → attaches cqid (sq_of v q) ≡ attaches cqid (t.sq q)
  sq-attaches cqid q = same-of (attaches cqid) (attaches-unplaced cqid) (sq_of v q) (t.sq q) (s.sq q)

  pub rows-alike : (command : AdminCommand) → is_create command ≡ false → rows_of (table_of v) command ≡ rows_of t command
  rows-alike (CreateSq qid qsize prp1 cqid qprio pc) h = absurd (true≢false h)
  rows-alike (CreateCq qid qsize prp1 pc) h = absurd (true≢false h)
  rows-alike (DeleteSq qid) h = λ i. row (qid == 0 || not ((sq-open qid) i)) invalid_queue_identifier ∷ []
  rows-alike (DeleteCq qid) h = λ i. row (qid == 0 || (cq-none qid) i) invalid_queue_identifier ∷ row (some_below (λ q. (sq-attaches qid q) i) MAX_REGIONS) invalid_queue_deletion ∷ []
  rows-alike (SetFeatures fid sv cdw11) h = λ i.
      row (not (fid == arbitration || fid == number_of_queues)) invalid_field
      ∷ row sv feature_not_saveable
      ∷ row (fid == number_of_queues && (s.created i)) sequence_error
      ∷ row (fid == number_of_queues && (nsqr_of cdw11 == 0xffff || ncqr_of cdw11 == 0xffff)) invalid_field
      ∷ []
  rows-alike (GetFeatures fid) h = refl
  rows-alike (Abort sqid cid) h = refl
  rows-alike Other h = refl

  -- the verdict on a command, over the tables after it
  pub verdict-alike : (x : ℕ) (command : AdminCommand) → unplaced_verdict (verdict_after (table_of v) (with_prp1 x command)) ≡ unplaced_verdict (verdict_after t command)
  verdict-alike x (CreateSq qid qsize prp1 cqid qprio pc) = same-of (λ o. unplaced_verdict (opened_sq qid o)) (opened-unplaced qid) (sq_of v qid) (t.sq qid) (s.sq qid)
  verdict-alike x (CreateCq qid qsize prp1 pc) = opened_cq-alike qid (cq_of v qid) (t.cq qid) (s.cq qid)
  verdict-alike x (DeleteSq qid) = refl
  verdict-alike x (DeleteCq qid) = refl
  verdict-alike x (SetFeatures fid sv cdw11) = λ i. unplaced_verdict (verdict_after (record t { nsq = s.nsq i; ncq = s.ncq i; settings = s.settings i }) (SetFeatures fid sv cdw11))
  verdict-alike x (GetFeatures fid) = λ i. unplaced_verdict (verdict_after (record t { nsq = s.nsq i; ncq = s.ncq i; settings = s.settings i }) (GetFeatures fid))
  verdict-alike x (Abort sqid cid) = refl
  verdict-alike x Other = refl

  pub verdict_by-alike : (status : StatusCode) (x : ℕ) (command : AdminCommand)
      → unplaced_verdict (verdict_by status (table_of v) (with_prp1 x command)) ≡ unplaced_verdict (verdict_by status t command)
  verdict_by-alike status x command = either (is_success status) (verdict_after (table_of v) (with_prp1 x command)) (verdict_after t command) (verdict-alike x command)
    where
      either : (b : Bool) (a c : Verdict) → unplaced_verdict a ≡ unplaced_verdict c → unplaced_verdict (if b then a else Done status 0) ≡ unplaced_verdict (if b then c else Done status 0)
      either true a c e = e
      either false a c e = refl

-- the tables after an accepted command
module _ (v new : TableView) (t : QueueTable) (s : HasQueues v t) (x : ℕ) where
  pub after-alike : (command : AdminCommand) → Shows new (table_after (table_of v) (with_prp1 x command)) → HasQueues new (table_after t command)
  after-alike (CreateSq qid qsize prp1 cqid qprio pc) w = record {
    sq = λ q. ap (option_map unplaced) (w.sq q) ∙ sq-either (qid == q) _ _ (sq_of v q) (t.sq q) refl (s.sq q);
    cq = λ q. ap is_some (w.cq q) ∙ s.cq q;
    nsq = w.nsq ∙ s.nsq;
    ncq = w.ncq ∙ s.ncq;
    numbers_set = w.numbers_set ∙ s.numbers_set;
    created = w.created;
    settings = w.settings ∙ s.settings;
  }
  after-alike (CreateCq qid qsize prp1 pc) w = record {
    sq = λ q. ap (option_map unplaced) (w.sq q) ∙ s.sq q;
    cq = λ q. ap is_some (w.cq q) ∙ cq-either (qid == q) _ _ (cq_of v q) (t.cq q) refl (s.cq q);
    nsq = w.nsq ∙ s.nsq;
    ncq = w.ncq ∙ s.ncq;
    numbers_set = w.numbers_set ∙ s.numbers_set;
    created = w.created;
    settings = w.settings ∙ s.settings;
  }
  after-alike (DeleteSq qid) w = record {
    sq = λ q. ap (option_map unplaced) (w.sq q)
        ∙ sq-either (qid == q) _ _ (sq_of v q) (t.sq q) (same-of (λ o. option_map unplaced (option_map as_closing o)) closing-unplaced (sq_of v q) (t.sq q) (s.sq q)) (s.sq q);
    cq = λ q. ap is_some (w.cq q) ∙ s.cq q;
    nsq = w.nsq ∙ s.nsq;
    ncq = w.ncq ∙ s.ncq;
    numbers_set = w.numbers_set ∙ s.numbers_set;
    created = w.created ∙ s.created;
    settings = w.settings ∙ s.settings;
  }
  after-alike (DeleteCq qid) w = record {
    sq = λ q. ap (option_map unplaced) (w.sq q) ∙ s.sq q;
    cq = λ q. ap is_some (w.cq q) ∙ cq-either (qid == q) None None (cq_of v q) (t.cq q) refl (s.cq q);
    nsq = w.nsq ∙ s.nsq;
    ncq = w.ncq ∙ s.ncq;
    numbers_set = w.numbers_set ∙ s.numbers_set;
    created = w.created ∙ s.created;
    settings = w.settings ∙ s.settings;
  }
  after-alike (SetFeatures fid sv cdw11) w = record {
    sq = λ q. ap (option_map unplaced) (w.sq q) ∙ s.sq q;
    cq = λ q. ap is_some (w.cq q) ∙ s.cq q;
    nsq = w.nsq ∙ (λ i. if fid == number_of_queues && not (s.numbers_set i) then min (nsqr_of cdw11 + 1) (s.nsq i) else s.nsq i);
    ncq = w.ncq ∙ (λ i. if fid == number_of_queues && not (s.numbers_set i) then min (ncqr_of cdw11 + 1) (s.ncq i) else s.ncq i);
    numbers_set = w.numbers_set ∙ (λ i. fid == number_of_queues || s.numbers_set i);
    created = w.created ∙ s.created;
    settings = w.settings ∙ (λ i. if fid == arbitration then settings_of cdw11 else s.settings i);
  }
  after-alike (GetFeatures fid) w = record {
    sq = λ q. ap (option_map unplaced) (w.sq q) ∙ s.sq q;
    cq = λ q. ap is_some (w.cq q) ∙ s.cq q;
    nsq = w.nsq ∙ s.nsq;
    ncq = w.ncq ∙ s.ncq;
    numbers_set = w.numbers_set ∙ s.numbers_set;
    created = w.created ∙ s.created;
    settings = w.settings ∙ s.settings;
  }
  after-alike (Abort sqid cid) w = record {
    sq = λ q. ap (option_map unplaced) (w.sq q) ∙ s.sq q;
    cq = λ q. ap is_some (w.cq q) ∙ s.cq q;
    nsq = w.nsq ∙ s.nsq;
    ncq = w.ncq ∙ s.ncq;
    numbers_set = w.numbers_set ∙ s.numbers_set;
    created = w.created ∙ s.created;
    settings = w.settings ∙ s.settings;
  }
  after-alike Other w = record {
    sq = λ q. ap (option_map unplaced) (w.sq q) ∙ s.sq q;
    cq = λ q. ap is_some (w.cq q) ∙ s.cq q;
    nsq = w.nsq ∙ s.nsq;
    ncq = w.ncq ∙ s.ncq;
    numbers_set = w.numbers_set ∙ s.numbers_set;
    created = w.created ∙ s.created;
    settings = w.settings ∙ s.settings;
  }
