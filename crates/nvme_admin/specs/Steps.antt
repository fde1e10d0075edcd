-- What a step makes of a queue table, by that queue table alone.
-- (Base Specification, Create and Delete I/O Submission and Completion Queue, Arbitration feature, Number of Queues feature)
use Rattle.std.specs.Prelude.{ℕ, suc, ◌+◌, ◌==◌, ◌&&◌, ◌||◌, Bool, true, false, not, min, if◌then◌else◌, [], Option, Some, None, option_map, unwrap_or}
use Rattle.nvme_entry.specs.declared.admin.AdminCommand.{AdminCommand}
use Rattle.nvme_entry.specs.declared.admin.AdminCommand.TheVariants.{DeleteSq, CreateSq, DeleteCq, CreateCq, SetFeatures}
use Rattle.nvme_arbiter.specs.Settings.{ArbitrationFields, settings_of}
use Rattle.nvme_admin.specs.declared.verdict.SqEntry.{SqEntry}
use Rattle.nvme_admin.specs.History.{Start}
use Rattle.nvme_admin.specs.QueueTable.{QueueTable, number_by, class_of, as_closing, arbitration, number_of_queues, nsqr_of, ncqr_of}

-- the number of the region of a new queue, by PRP1 of its Create
abbrev pub sq_region_at : QueueTable → ℕ → ℕ
sq_region_at t prp1 = unwrap_or (number_by t.placing t.sqs_made t.sq_regions prp1) 0

abbrev pub cq_region_at : QueueTable → ℕ → ℕ
cq_region_at t prp1 = unwrap_or (number_by t.placing t.cqs_made t.cq_regions prp1) 0

-- the submission queues after an accepted command: a Create opens its own, and a Delete makes its own closing
abbrev pub sqs_by : QueueTable → AdminCommand → ℕ → Option SqEntry
sqs_by t (CreateSq qid qsize prp1 cqid qprio pc) q =
    if qid == q then Some (record { region = sq_region_at t prp1; cqid = cqid; class = class_of qprio; closing = false }) else t.sq q
sqs_by t (DeleteSq qid) q = if qid == q then option_map as_closing (t.sq q) else t.sq q
sqs_by t command q = t.sq q

-- the regions of the completion queues after an accepted command: a Create opens its own, and a Delete closes its own
abbrev pub cqs_by : QueueTable → AdminCommand → ℕ → Option ℕ
cqs_by t (CreateCq qid qsize prp1 pc) q = if qid == q then Some (cq_region_at t prp1) else t.cq q
cqs_by t (DeleteCq qid) q = if qid == q then None else t.cq q
cqs_by t command q = t.cq q

-- the used submission regions after an accepted command: a Create uses its own
abbrev pub sqs_used_by : QueueTable → AdminCommand → ℕ → Bool
sqs_used_by t (CreateSq qid qsize prp1 cqid qprio pc) k = sq_region_at t prp1 == k || t.sq_region_used k
sqs_used_by t command k = t.sq_region_used k

-- the used completion regions after an accepted command
abbrev pub cqs_used_by : QueueTable → AdminCommand → ℕ → Bool
cqs_used_by t (CreateCq qid qsize prp1 pc) k = cq_region_at t prp1 == k || t.cq_region_used k
cqs_used_by t command k = t.cq_region_used k

-- a command is the first request for Number of Queues
abbrev pub is_first_request : QueueTable → ℕ → Bool
is_first_request t fid = fid == number_of_queues && not t.numbers_set

-- the allotted numbers after an accepted command: the first request sets them, each within what was allotted (profile)
abbrev pub nsq_by_command : QueueTable → AdminCommand → ℕ
nsq_by_command t (SetFeatures fid sv cdw11) = if is_first_request t fid then min (nsqr_of cdw11 + 1) t.nsq else t.nsq
nsq_by_command t command = t.nsq

abbrev pub ncq_by_command : QueueTable → AdminCommand → ℕ
ncq_by_command t (SetFeatures fid sv cdw11) = if is_first_request t fid then min (ncqr_of cdw11 + 1) t.ncq else t.ncq
ncq_by_command t command = t.ncq

-- whether a request for Number of Queues was accepted, after an accepted command
abbrev pub numbers_set_by : QueueTable → AdminCommand → Bool
numbers_set_by t (SetFeatures fid sv cdw11) = fid == number_of_queues || t.numbers_set
numbers_set_by t command = t.numbers_set

-- whether a Create was accepted, after an accepted command
abbrev pub created_by : QueueTable → AdminCommand → Bool
created_by t (CreateSq qid qsize prp1 cqid qprio pc) = true
created_by t (CreateCq qid qsize prp1 pc) = true
created_by t command = t.created

-- the settings of the Arbitration feature after an accepted command
abbrev pub settings_by : QueueTable → AdminCommand → ArbitrationFields
settings_by t (SetFeatures fid sv cdw11) = if fid == arbitration then settings_of cdw11 else t.settings
settings_by t command = t.settings

-- how many I/O queues of each kind were created, after an accepted command
abbrev pub sqs_made_by : QueueTable → AdminCommand → ℕ
sqs_made_by t (CreateSq qid qsize prp1 cqid qprio pc) = suc t.sqs_made
sqs_made_by t command = t.sqs_made

abbrev pub cqs_made_by : QueueTable → AdminCommand → ℕ
cqs_made_by t (CreateCq qid qsize prp1 pc) = suc t.cqs_made
cqs_made_by t command = t.cqs_made

-- the queue table after an accepted command. No command adds a region, or changes where queues may lie
abbrev pub table_after : QueueTable → AdminCommand → QueueTable
table_after t command = record {
  sq = sqs_by t command;
  cq = cqs_by t command;
  sq_regions = t.sq_regions;
  cq_regions = t.cq_regions;
  sq_region_used = sqs_used_by t command;
  cq_region_used = cqs_used_by t command;
  nsq = nsq_by_command t command;
  ncq = ncq_by_command t command;
  numbers_set = numbers_set_by t command;
  created = created_by t command;
  settings = settings_by t command;
  placing = t.placing;
  sqs_made = sqs_made_by t command;
  cqs_made = cqs_made_by t command;
}

-- the queue table with which a table begins: no region and no queue, each queue to lie on a region, and of each kind region 0 counts as used
abbrev pub empty_table : Start → QueueTable
empty_table start = record {
  sq = λ q. None;
  cq = λ q. None;
  sq_regions = [];
  cq_regions = [];
  sq_region_used = λ k. k == 0;
  cq_region_used = λ k. k == 0;
  nsq = start.nsq;
  ncq = start.ncq;
  numbers_set = false;
  created = false;
  settings = start.settings;
  placing = None;
  sqs_made = 0;
  cqs_made = 0;
}
