-- What an event changes of what a judge keeps.
use Rattle.std.specs.Prelude.{◌≡◌, ℕ, ◌+◌, ◌==◌, ◌&&◌, ◌||◌, nat_lt, not, Bool, true, false, is_none, is_some, Option, Some, None, if◌then◌else◌}
use Rattle.nvme_entry.specs.declared.admin.AdminCommand.{AdminCommand}
use Rattle.nvme_entry.specs.declared.admin.AdminCommand.TheVariants.{DeleteSq, CreateSq, DeleteCq, CreateCq, Abort, SetFeatures, GetFeatures, Other}
use Rattle.nvme_audit.specs.declared.event.Event.{Event}
use Rattle.nvme_audit.specs.declared.event.Event.TheVariants.{Tail, Head, Fetch, Post}
use Rattle.nvme_audit.specs.declared.event.Completion.{Completion}
use Rattle.nvme_audit.specs.declared.facts.Ring.{Ring}
use Rattle.nvme_audit.specs.declared.facts.Sq.{Sq}
use Rattle.nvme_audit.specs.declared.facts.Cq.{Cq}
use Rattle.nvme_audit.specs.declared.facts.Admin.{Admin}
use Rattle.nvme_audit.specs.declared.facts.Command.{Command}
use Rattle.nvme_audit.specs.declared.verdict.Verdict.{Verdict}
use Rattle.nvme_audit.specs.declared.judge.Judge.{Judge}
use Rattle.nvme_audit.specs.declared.repair.WholeJudge.{WholeJudge}
use Rattle.nvme_audit.specs.Lives.{turns_sq}
use Rattle.nvme_audit.specs.Queues.{ring_by, deletes_sq, opens_sq, turns_cq, qsize_by, opens_cq, deletes_cq}
use Rattle.nvme_audit.specs.Rings.{advanced_where_open, qsize_in}
use Rattle.nvme_audit.specs.Turns.{sq_named, cq_named, cid_named, is_of_sqs, joins, is_on, creates, numbers_by}
use Rattle.nvme_audit.specs.Aborts.{is_abort, names, is_aborted, told_of}
use Rattle.nvme_audit.specs.Host.{is_kept, tail_verdict, head_verdict}
use Rattle.nvme_audit.specs.Rules.{fetch_verdict, if_kept, post_verdict}
use Rattle.nvme_audit.specs.Answers.{answered_in, mark_in, answer_verdict}
use Rattle.nvme_audit.specs.Repairs.{Queue, All, SQ, CQ, lets_go, is_of, turns}
use Rattle.nvme_audit.specs.Standing.{sq_at, cq_at, command_at, gone_at, gone_in}

-- ---- verdicts, by what is kept
abbrev pub ruled_at : Judge → Event → Verdict
ruled_at judge (Tail sq slot) = tail_verdict (sq_at judge sq) slot
ruled_at judge (Head cq slot) = head_verdict (cq_at judge cq) slot
ruled_at judge (Fetch sq slot cid command) = fetch_verdict judge.start.tells (sq_at judge sq) slot (is_some (command_at judge.commands sq cid))
ruled_at judge (Post cq slot completion) =
    if_kept
    (post_verdict judge.start.tells cq (cq_at judge cq) (sq_at judge completion.sq) (command_at judge.commands completion.sq completion.cid) slot completion)
    (answer_verdict
    judge.start.tells
    (cq_at judge cq)
    (cq_at judge (cq_named (answered_in (command_at judge.commands completion.sq completion.cid) completion)))
    (sq_at judge completion.sq)
    (sq_at judge (sq_named (answered_in (command_at judge.commands completion.sq completion.cid) completion)))
    judge.admin
    (command_at judge.commands completion.sq completion.cid)
    (command_at judge.commands (sq_named (answered_in (command_at judge.commands completion.sq completion.cid) completion)) (cid_named (answered_in (command_at judge.commands completion.sq completion.cid) completion)))
    completion)

-- what is noted of a command at its fetch
abbrev pub mark_at : Judge → AdminCommand → ℕ
mark_at judge (DeleteSq qid) = 0
mark_at judge (CreateSq qid qsize prp1 cqid qprio pc) = (cq_at judge cqid).answered
mark_at judge (DeleteCq qid) = judge.admin.answered
mark_at judge (CreateCq qid qsize prp1 pc) = 0
mark_at judge (Abort sqid cid) = (sq_at judge sqid).stirred
mark_at judge (SetFeatures fid sv cdw11) = if judge.admin.created then 1 else 0
mark_at judge (GetFeatures fid) = 0
mark_at judge Other = 0

abbrev pub meets_at : Judge → AdminCommand → Bool
meets_at judge (DeleteSq qid) = nat_lt (sq_at judge qid).answered (sq_at judge qid).asked
meets_at judge (CreateSq qid qsize prp1 cqid qprio pc) = nat_lt (sq_at judge qid).answered (sq_at judge qid).asked
meets_at judge (DeleteCq qid) = nat_lt (cq_at judge qid).answered (cq_at judge qid).asked
meets_at judge (CreateCq qid qsize prp1 pc) = nat_lt (cq_at judge qid).answered (cq_at judge qid).asked
meets_at judge (Abort sqid cid) = false
meets_at judge (SetFeatures fid sv cdw11) = false
meets_at judge (GetFeatures fid) = false
meets_at judge Other = false

abbrev pub ring_ended_at : Judge → AdminCommand → Option Ring
ring_ended_at judge (DeleteSq qid) = (sq_at judge qid).ring
ring_ended_at judge (CreateSq qid qsize prp1 cqid qprio pc) = (sq_at judge qid).ring
ring_ended_at judge (DeleteCq qid) = None
ring_ended_at judge (CreateCq qid qsize prp1 pc) = None
ring_ended_at judge (Abort sqid cid) = None
ring_ended_at judge (SetFeatures fid sv cdw11) = None
ring_ended_at judge (GetFeatures fid) = None
ring_ended_at judge Other = None

-- ---- changes of one queue
abbrev pub sq_told : Sq → ℕ → Verdict → Sq
sq_told sq slot verdict = record {
  ring = sq.ring;
  submitted = advanced_where_open (qsize_in sq.ring) sq.submitted slot;
  fetched = sq.fetched;
  deleted = sq.deleted;
  excused = sq.excused || not (is_kept verdict);
  asked = sq.asked;
  answered = sq.answered;
  doomed = sq.doomed;
  stirred = sq.stirred;
}

abbrev pub cq_released : Cq → ℕ → Verdict → Cq
cq_released cq slot verdict = record {
  qsize = cq.qsize;
  posted = cq.posted;
  consumed = advanced_where_open cq.qsize cq.consumed slot;
  excused = cq.excused || not (is_kept verdict);
  asked = cq.asked;
  answered = cq.answered;
  joined = cq.joined;
  parted = cq.parted;
  early = cq.early;
}

abbrev pub sq_fetched : Sq → Option Command → Sq
sq_fetched sq out = record {
  ring = sq.ring;
  submitted = sq.submitted;
  fetched = sq.fetched + 1;
  deleted = sq.deleted;
  excused = is_some out || sq.excused;
  asked = sq.asked;
  answered = sq.answered;
  doomed = sq.doomed;
  stirred = sq.stirred;
}

abbrev pub cq_posted : Cq → Cq
cq_posted cq = record {
  qsize = cq.qsize;
  posted = cq.posted + 1;
  consumed = cq.consumed;
  excused = cq.excused;
  asked = cq.asked;
  answered = cq.answered;
  joined = cq.joined;
  parted = cq.parted;
  early = (is_none cq.qsize && nat_lt cq.answered cq.asked) || cq.early;
}

abbrev pub sq_ended : Completion → Sq → Sq
sq_ended completion sq = record {
  ring = sq.ring;
  submitted = sq.submitted;
  fetched = sq.fetched;
  deleted = sq.deleted;
  excused = sq.excused;
  asked = sq.asked;
  answered = sq.answered;
  doomed = sq.doomed;
  stirred = if is_aborted completion.status then sq.stirred + 1 else sq.stirred;
}

-- ---- what an admin command does when it is fetched
abbrev pub sq_asking : AdminCommand → ℕ → Sq → Sq
sq_asking command q sq = record {
  ring = sq.ring;
  submitted = sq.submitted;
  fetched = sq.fetched;
  deleted = sq.deleted;
  excused = (not (opens_sq command q) || (nat_lt sq.answered sq.asked || is_some sq.ring)) && sq.excused;
  asked = if turns_sq command q then sq.asked + 1 else sq.asked;
  answered = sq.answered;
  doomed = deletes_sq command q || sq.doomed;
  stirred = sq.stirred;
}

abbrev pub cq_asking : AdminCommand → ℕ → Cq → Cq
cq_asking command q cq = record {
  qsize = cq.qsize;
  posted = cq.posted;
  consumed = cq.consumed;
  excused = (not (opens_cq command q) || (nat_lt cq.answered cq.asked || is_some cq.qsize)) && cq.excused;
  asked = if turns_cq command q then cq.asked + 1 else cq.asked;
  answered = cq.answered;
  joined = cq.joined;
  parted = cq.parted;
  early = cq.early;
}

abbrev pub admin_asking : Bool → AdminCommand → Admin → Admin
admin_asking meets command admin = record {
  asked = if is_of_sqs command then admin.asked + 1 else admin.asked;
  answered = admin.answered;
  met = meets || admin.met;
  created = admin.created;
  numbers = admin.numbers;
  aborts_asked = if is_abort command then admin.aborts_asked + 1 else admin.aborts_asked;
  aborts_answered = admin.aborts_answered;
}

-- a Create or a Delete of the queue
abbrev pub sq_asked : Bool → Sq → Sq
sq_asked deletes sq = record { ring = sq.ring; submitted = sq.submitted; fetched = sq.fetched; deleted = sq.deleted; excused = (deletes || (nat_lt sq.answered sq.asked || is_some sq.ring)) && sq.excused; asked = sq.asked + 1; answered = sq.answered; doomed = deletes || sq.doomed; stirred = sq.stirred }

abbrev pub cq_asked : Bool → Cq → Cq
cq_asked deletes cq = record { qsize = cq.qsize; posted = cq.posted; consumed = cq.consumed; excused = (deletes || (nat_lt cq.answered cq.asked || is_some cq.qsize)) && cq.excused; asked = cq.asked + 1; answered = cq.answered; joined = cq.joined; parted = cq.parted; early = cq.early }

-- ---- when it is answered
abbrev pub sq_answering : AdminCommand → ℕ → Sq → Sq
sq_answering command q sq = record {
  ring = sq.ring;
  submitted = sq.submitted;
  fetched = sq.fetched;
  deleted = sq.deleted;
  excused = sq.excused;
  asked = sq.asked;
  answered = if turns_sq command q then sq.answered + 1 else sq.answered;
  doomed = sq.doomed;
  stirred = sq.stirred;
}

abbrev pub cq_answering : AdminCommand → ℕ → Cq → Cq
cq_answering command q cq = record {
  qsize = cq.qsize;
  posted = cq.posted;
  consumed = cq.consumed;
  excused = cq.excused;
  asked = cq.asked;
  answered = if turns_cq command q then cq.answered + 1 else cq.answered;
  joined = cq.joined;
  parted = cq.parted;
  early = cq.early;
}

abbrev pub admin_answering : AdminCommand → Admin → Admin
admin_answering command admin = record {
  asked = admin.asked;
  answered = if is_of_sqs command then admin.answered + 1 else admin.answered;
  met = admin.met;
  created = admin.created;
  numbers = admin.numbers;
  aborts_asked = admin.aborts_asked;
  aborts_answered = if is_abort command then admin.aborts_answered + 1 else admin.aborts_answered;
}

abbrev pub sq_answered : Sq → Sq
sq_answered sq = record { ring = sq.ring; submitted = sq.submitted; fetched = sq.fetched; deleted = sq.deleted; excused = sq.excused; asked = sq.asked; answered = sq.answered + 1; doomed = sq.doomed; stirred = sq.stirred }

-- ---- and when it succeeds
abbrev pub sq_turned : AdminCommand → ℕ → Sq → Sq
sq_turned command q sq = record {
  ring = ring_by command q sq.ring;
  submitted = if turns_sq command q then 0 else sq.submitted;
  fetched = if turns_sq command q then 0 else sq.fetched;
  deleted = deletes_sq command q || sq.deleted;
  excused = sq.excused;
  asked = sq.asked;
  answered = sq.answered;
  doomed = sq.doomed;
  stirred = if turns_sq command q then sq.stirred + 1 else sq.stirred;
}

abbrev pub cq_turned : AdminCommand → Option Ring → ℕ → Cq → Cq
cq_turned command ended q cq = record {
  qsize = qsize_by command q cq.qsize;
  posted = if turns_cq command q then 0 else cq.posted;
  consumed = if turns_cq command q then 0 else cq.consumed;
  excused = cq.excused;
  asked = cq.asked;
  answered = cq.answered;
  joined = if joins command q then cq.joined + 1 else cq.joined;
  parted = if is_on q ended then cq.parted + 1 else cq.parted;
  early = not (deletes_cq command q) && cq.early;
}

abbrev pub cq_joined : Cq → Cq
cq_joined cq = record { qsize = cq.qsize; posted = cq.posted; consumed = cq.consumed; excused = cq.excused; asked = cq.asked; answered = cq.answered; joined = cq.joined + 1; parted = cq.parted; early = cq.early }

abbrev pub cq_parted : Cq → Cq
cq_parted cq = record { qsize = cq.qsize; posted = cq.posted; consumed = cq.consumed; excused = cq.excused; asked = cq.asked; answered = cq.answered; joined = cq.joined; parted = cq.parted + 1; early = cq.early }

abbrev pub admin_noting : AdminCommand → Option ℕ → Admin → Admin
admin_noting command dw0 admin = record {
  asked = admin.asked;
  answered = admin.answered;
  met = admin.met;
  created = creates command || admin.created;
  numbers = numbers_by command dw0 admin.numbers;
  aborts_asked = admin.aborts_asked;
  aborts_answered = admin.aborts_answered;
}

-- ---- changes of a judge
-- of a judge the facts of one submission queue change
pub record PutsSq (old new : Judge) (q : ℕ) (sq : Sq) : Type 0 where
  pub start_stays : new.start ≡ old.start
  pub lost_stays : new.lost ≡ old.lost
  pub puts : (k : ℕ) → sq_at new k ≡ (if q == k then sq else sq_at old k)
  pub cqs_stay : (k : ℕ) → cq_at new k ≡ cq_at old k
  pub admin_stays : new.admin ≡ old.admin
  pub commands_stay : new.commands ≡ old.commands

-- of a judge the facts of one completion queue change
pub record PutsCq (old new : Judge) (q : ℕ) (cq : Cq) : Type 0 where
  pub start_stays : new.start ≡ old.start
  pub lost_stays : new.lost ≡ old.lost
  pub sqs_stay : (k : ℕ) → sq_at new k ≡ sq_at old k
  pub puts : (k : ℕ) → cq_at new k ≡ (if q == k then cq else cq_at old k)
  pub admin_stays : new.admin ≡ old.admin
  pub commands_stay : new.commands ≡ old.commands

pub record KeepsFetch (old new : Judge) (sq cid : ℕ) (command : AdminCommand) : Type 0 where
  pub start_stays : new.start ≡ old.start
  pub lost : new.lost ≡ ((sq == 0) && is_some (command_at old.commands sq cid)) || old.lost
  pub sqs : (k : ℕ) → sq_at new k ≡ (if sq == k then sq_fetched (sq_at old sq) (command_at old.commands sq cid) else sq_at old k)
  pub cqs_stay : (k : ℕ) → cq_at new k ≡ cq_at old k
  pub admin_stays : new.admin ≡ old.admin
  pub commands : (k c : ℕ) → command_at new.commands k c ≡ (if (sq == k) && (cid == c) then Some (record { number = (sq_at old sq).fetched; command = command; mark = mark_at old command; named = nat_lt old.admin.aborts_answered old.admin.aborts_asked; owed = false }) else command_at old.commands k c)

-- an outstanding command that an Abort names, or says that it was aborted
abbrev pub flagged : (named owed : Bool) → Option Command → Option Command
flagged named owed None = None
flagged named owed (Some command) = Some (record { number = command.number; command = command.command; mark = command.mark; named = named || command.named; owed = owed || command.owed })

-- a Create or a Delete of one queue
pub record AsksSq (old new : Judge) (q : ℕ) (deletes : Bool) : Type 0 where
  pub start_stays : new.start ≡ old.start
  pub lost_stays : new.lost ≡ old.lost
  pub sqs : (k : ℕ) → sq_at new k ≡ (if q == k then sq_asked deletes (sq_at old q) else sq_at old k)
  pub cqs_stay : (k : ℕ) → cq_at new k ≡ cq_at old k
  pub admin : new.admin ≡ record { asked = old.admin.asked + 1; answered = old.admin.answered; met = nat_lt (sq_at old q).answered (sq_at old q).asked || old.admin.met; created = old.admin.created; numbers = old.admin.numbers; aborts_asked = old.admin.aborts_asked; aborts_answered = old.admin.aborts_answered }
  pub commands_stay : new.commands ≡ old.commands

pub record AsksCq (old new : Judge) (q : ℕ) (deletes : Bool) : Type 0 where
  pub start_stays : new.start ≡ old.start
  pub lost_stays : new.lost ≡ old.lost
  pub sqs_stay : (k : ℕ) → sq_at new k ≡ sq_at old k
  pub cqs : (k : ℕ) → cq_at new k ≡ (if q == k then cq_asked deletes (cq_at old q) else cq_at old k)
  pub admin : new.admin ≡ record { asked = old.admin.asked; answered = old.admin.answered; met = nat_lt (cq_at old q).answered (cq_at old q).asked || old.admin.met; created = old.admin.created; numbers = old.admin.numbers; aborts_asked = old.admin.aborts_asked; aborts_answered = old.admin.aborts_answered }
  pub commands_stay : new.commands ≡ old.commands

pub record Asks (old new : Judge) (command : AdminCommand) : Type 0 where
  pub start_stays : new.start ≡ old.start
  pub lost_stays : new.lost ≡ old.lost
  pub sqs : (k : ℕ) → sq_at new k ≡ sq_asking command k (sq_at old k)
  pub cqs : (k : ℕ) → cq_at new k ≡ cq_asking command k (cq_at old k)
  pub admin : new.admin ≡ admin_asking (meets_at old command) command old.admin
  pub commands : (k c : ℕ) → command_at new.commands k c ≡ (if names command k c then flagged true false (command_at old.commands k c) else command_at old.commands k c)

pub record KeepsPost (old new : Judge) (cq : ℕ) (completion : Completion) : Type 0 where
  pub start_stays : new.start ≡ old.start
  pub lost_stays : new.lost ≡ old.lost
  pub sqs : (k : ℕ) → sq_at new k ≡ (if completion.sq == k then sq_ended completion (sq_at old completion.sq) else sq_at old k)
  pub cqs : (k : ℕ) → cq_at new k ≡ (if cq == k then cq_posted (cq_at old cq) else cq_at old k)
  pub admin_stays : new.admin ≡ old.admin
  pub commands : (k c : ℕ) → command_at new.commands k c ≡ (if (completion.sq == k) && (completion.cid == c) then None else command_at old.commands k c)

pub record AnswersSq (old new : Judge) (q : ℕ) : Type 0 where
  pub start_stays : new.start ≡ old.start
  pub lost_stays : new.lost ≡ old.lost
  pub sqs : (k : ℕ) → sq_at new k ≡ (if q == k then sq_answered (sq_at old q) else sq_at old k)
  pub cqs_stay : (k : ℕ) → cq_at new k ≡ cq_at old k
  pub admin : new.admin ≡ record { asked = old.admin.asked; answered = old.admin.answered + 1; met = old.admin.met; created = old.admin.created; numbers = old.admin.numbers; aborts_asked = old.admin.aborts_asked; aborts_answered = old.admin.aborts_answered }
  pub commands_stay : new.commands ≡ old.commands

pub record Answers (old new : Judge) (command : AdminCommand) : Type 0 where
  pub start_stays : new.start ≡ old.start
  pub lost_stays : new.lost ≡ old.lost
  pub sqs : (k : ℕ) → sq_at new k ≡ sq_answering command k (sq_at old k)
  pub cqs : (k : ℕ) → cq_at new k ≡ cq_answering command k (cq_at old k)
  pub admin : new.admin ≡ admin_answering command old.admin
  pub commands_stay : new.commands ≡ old.commands

-- what an Abort says of the command that it names
abbrev pub told_at : Judge → Completion → AdminCommand → Bool
told_at judge completion command = told_of (sq_at judge (sq_named command)).stirred (mark_in (command_at judge.commands 0 completion.cid)) completion

pub record Owes (old new : Judge) (command : AdminCommand) (told : Bool) : Type 0 where
  pub start_stays : new.start ≡ old.start
  pub lost_stays : new.lost ≡ old.lost
  pub sqs_stay : (k : ℕ) → sq_at new k ≡ sq_at old k
  pub cqs_stay : (k : ℕ) → cq_at new k ≡ cq_at old k
  pub admin_stays : new.admin ≡ old.admin
  pub commands : (k c : ℕ) → command_at new.commands k c ≡ (if names command k c && told then flagged false true (command_at old.commands k c) else command_at old.commands k c)

-- a queue that is opened or closed
abbrev pub sq_begun : Option Ring → Sq → Sq
sq_begun ring sq = record {
  ring = ring;
  submitted = 0;
  fetched = 0;
  deleted = is_none ring || sq.deleted;
  excused = sq.excused;
  asked = sq.asked;
  answered = sq.answered;
  doomed = sq.doomed;
  stirred = sq.stirred + 1;
}

abbrev pub cq_begun : Option ℕ → Cq → Cq
cq_begun qsize cq = record {
  qsize = qsize;
  posted = 0;
  consumed = 0;
  excused = cq.excused;
  asked = cq.asked;
  answered = cq.answered;
  joined = cq.joined;
  parted = cq.parted;
  early = is_some qsize && cq.early;
}

pub record BeginsSq (old new : Judge) (q : ℕ) (sq : Sq) : Type 0 where
  pub start_stays : new.start ≡ old.start
  pub lost_stays : new.lost ≡ old.lost
  pub sqs : (k : ℕ) → sq_at new k ≡ (if q == k then sq else sq_at old k)
  pub cqs_stay : (k : ℕ) → cq_at new k ≡ cq_at old k
  pub admin_stays : new.admin ≡ old.admin
  pub commands : (k c : ℕ) → command_at new.commands k c ≡ (if q == k then None else command_at old.commands k c)

-- and is counted with its completion queue, as is the one that it ends
abbrev pub cq_joining : Option Ring → Option Ring → ℕ → Cq → Cq
cq_joining begun ended q cq = record {
  qsize = cq.qsize;
  posted = cq.posted;
  consumed = cq.consumed;
  excused = cq.excused;
  asked = cq.asked;
  answered = cq.answered;
  joined = if is_on q begun then cq.joined + 1 else cq.joined;
  parted = if is_on q ended then cq.parted + 1 else cq.parted;
  early = cq.early;
}

pub record TurnsSq (old new : Judge) (q : ℕ) (ring : Option Ring) : Type 0 where
  pub start_stays : new.start ≡ old.start
  pub lost_stays : new.lost ≡ old.lost
  pub sqs : (k : ℕ) → sq_at new k ≡ (if q == k then sq_begun ring (sq_at old q) else sq_at old k)
  pub cqs : (k : ℕ) → cq_at new k ≡ cq_joining ring (sq_at old q).ring k (cq_at old k)
  pub admin_stays : new.admin ≡ old.admin
  pub commands : (k c : ℕ) → command_at new.commands k c ≡ (if q == k then None else command_at old.commands k c)

pub record Turns (old new : Judge) (command : AdminCommand) : Type 0 where
  pub start_stays : new.start ≡ old.start
  pub lost_stays : new.lost ≡ old.lost
  pub sqs : (k : ℕ) → sq_at new k ≡ sq_turned command k (sq_at old k)
  pub cqs : (k : ℕ) → cq_at new k ≡ cq_turned command (ring_ended_at old command) k (cq_at old k)
  pub admin_stays : new.admin ≡ old.admin
  pub commands : (k c : ℕ) → command_at new.commands k c ≡ (if turns_sq command k then None else command_at old.commands k c)

pub record Notes (old new : Judge) (command : AdminCommand) (dw0 : Option ℕ) : Type 0 where
  pub start_stays : new.start ≡ old.start
  pub lost_stays : new.lost ≡ old.lost
  pub sqs_stay : (k : ℕ) → sq_at new k ≡ sq_at old k
  pub cqs_stay : (k : ℕ) → cq_at new k ≡ cq_at old k
  pub admin : new.admin ≡ admin_noting command dw0 old.admin
  pub commands_stay : new.commands ≡ old.commands

-- ---- changes of a judge that goes on
-- the queues of an event go, where what is said of it does so
abbrev pub gone_more : (old : WholeJudge) → Verdict → Event → Queue → Bool
gone_more old said event queue = (is_of event queue && lets_go said) || gone_in old queue

pub record LetsGo (old new : WholeJudge) (said : Verdict) (event : Event) : Type 0 where
  pub judge_stays : new.judge ≡ old.judge
  pub all_is : new.all ≡ gone_more old said event All
  pub sqs_are : (q : ℕ) → gone_at new.sqs q ≡ gone_more old said event (SQ q)
  pub cqs_are : (q : ℕ) → gone_at new.cqs q ≡ gone_more old said event (CQ q)

-- a queue comes back that a command with success opens or closes
pub record Reopens (old new : WholeJudge) (command : AdminCommand) : Type 0 where
  pub judge_stays : new.judge ≡ old.judge
  pub all_stays : new.all ≡ old.all
  pub sqs_are : (q : ℕ) → gone_at new.sqs q ≡ (not (turns command (SQ q)) && gone_at old.sqs q)
  pub cqs_are : (q : ℕ) → gone_at new.cqs q ≡ (not (turns command (CQ q)) && gone_at old.cqs q)
