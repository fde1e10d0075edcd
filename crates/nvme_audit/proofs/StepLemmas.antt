-- What a judge keeps stays what the log says.
use Rattle.std.proofs.Common.{◌≡◌, ℕ, ◌+◌, ◌==◌, ◌&&◌, ◌||◌, nat_lt, Bool, true, false, if◌then◌else◌, ◌∷◌, Option, None, Some, is_none, is_some, Result, Ok, Err, OnOk, MatchBool, refl, ap, ◌∙◌}
use Rattle.std.proofs.lemmas.Bool.{eqb-true}
use Rattle.nvme_entry.specs.declared.admin.AdminCommand.{AdminCommand}
use Rattle.nvme_entry.specs.declared.admin.AdminCommand.TheVariants.{DeleteSq, CreateSq, DeleteCq, CreateCq, Abort, SetFeatures, GetFeatures, Other}
use Rattle.nvme_audit.specs.declared.event.Event.TheVariants.{Fetch, Post}
use Rattle.nvme_audit.specs.declared.event.Completion.{Completion}
use Rattle.nvme_audit.specs.declared.facts.Start.{Start}
use Rattle.nvme_audit.specs.declared.facts.Ring.{Ring}
use Rattle.nvme_audit.specs.declared.facts.Sq.{Sq}
use Rattle.nvme_audit.specs.declared.facts.Cq.{Cq}
use Rattle.nvme_audit.specs.declared.facts.Admin.{Admin}
use Rattle.nvme_audit.specs.declared.facts.Command.{Command}
use Rattle.nvme_audit.specs.declared.commands.Commands.{Commands}
use Rattle.nvme_audit.specs.declared.judge.Judge.{Judge}
use Rattle.nvme_audit.specs.Lives.{Past, asked, turns_sq, done_by, done}
use Rattle.nvme_audit.specs.Rings.{fetched, number_of}
use Rattle.nvme_audit.specs.Turns.{sq_named, asking, answered_by, answered, meets, ring_ended}
use Rattle.nvme_audit.specs.Aborts.{names, was_named, is_aborted, stirred, told_of}
use Rattle.nvme_audit.specs.Marks.{mark_for, mark_of, mark_if, owes}
use Rattle.nvme_audit.specs.Answers.{command_in, mark_in, answered_in}
use Rattle.nvme_audit.specs.Facts.{sq_after, cq_after, admin_after, command_with}
use Rattle.nvme_audit.specs.Standing.{sq_at, cq_at, command_at, StandsAt}
use Rattle.nvme_audit.specs.inside.Steps.{mark_at, meets_at, ring_ended_at, sq_fetched, sq_ended, cq_posted, flagged, told_at, sq_asking, cq_asking, admin_asking, sq_answering, cq_answering, admin_answering, sq_turned, cq_turned, admin_noting, KeepsFetch, Asks, KeepsPost, Owes, Answers, Turns, Notes}

command_in-with : (out : Option AdminCommand) (n m : ℕ) (named owed : Bool) → command_in (command_with out n m named owed) ≡ out
command_in-with None n m named owed = refl
command_in-with (Some command) n m named owed = refl

mark_in-with : (out : Option AdminCommand) (n m : ℕ) (named owed : Bool) → mark_in (command_with out n m named owed) ≡ mark_if out m
mark_in-with None n m named owed = refl
mark_in-with (Some command) n m named owed = refl

pub same_out : (out : Option AdminCommand) (n m : ℕ) (named owed : Bool) → is_some (command_with out n m named owed) ≡ is_some out
same_out None n m named owed = refl
same_out (Some command) n m named owed = refl

-- ---- what a command depends on
pub mark_stands : (start : Start) (past : Past) (judge : Judge) (command : AdminCommand) → StandsAt start past judge → mark_at judge command ≡ mark_for past command
mark_stands start past judge (DeleteSq qid) stands = refl
mark_stands start past judge (CreateSq qid qsize prp1 cqid qprio pc) stands = ap (λ (cq : Cq). cq.answered) (stands.cqs_are cqid)
mark_stands start past judge (DeleteCq qid) stands = ap (λ (admin : Admin). admin.answered) stands.admin_is
mark_stands start past judge (CreateCq qid qsize prp1 pc) stands = refl
mark_stands start past judge (Abort sqid cid) stands = ap (λ (sq : Sq). sq.stirred) (stands.sqs_are sqid)
mark_stands start past judge (SetFeatures fid sv cdw11) stands = ap (λ (admin : Admin). if admin.created then 1 else 0) stands.admin_is
mark_stands start past judge (GetFeatures fid) stands = refl
mark_stands start past judge Other stands = refl

ring_stands : (start : Start) (past : Past) (judge : Judge) (command : AdminCommand) → ((q : ℕ) → (sq_at judge q).ring ≡ (sq_after start past q).ring) → ring_ended_at judge command ≡ ring_ended start past command
ring_stands start past judge (DeleteSq qid) same = same qid
ring_stands start past judge (CreateSq qid qsize prp1 cqid qprio pc) same = same qid
ring_stands start past judge (DeleteCq qid) same = refl
ring_stands start past judge (CreateCq qid qsize prp1 pc) same = refl
ring_stands start past judge (Abort sqid cid) same = refl
ring_stands start past judge (SetFeatures fid sv cdw11) same = refl
ring_stands start past judge (GetFeatures fid) same = refl
ring_stands start past judge Other same = refl

abbrev sq_meets : Sq → Bool
sq_meets sq = nat_lt sq.answered sq.asked

abbrev cq_meets : Cq → Bool
cq_meets cq = nat_lt cq.answered cq.asked

-- counts are those of before the fetch
meets_stands : (start : Start) (past : Past) (judge : Judge) (command : AdminCommand) → ((q : ℕ) → sq_meets (sq_at judge q) ≡ sq_meets (sq_after start past q)) → ((q : ℕ) → cq_at judge q ≡ cq_after start past q) → meets_at judge command ≡ meets past command
meets_stands start past judge (DeleteSq qid) sqs cqs = sqs qid
meets_stands start past judge (CreateSq qid qsize prp1 cqid qprio pc) sqs cqs = sqs qid
meets_stands start past judge (DeleteCq qid) sqs cqs = ap cq_meets (cqs qid)
meets_stands start past judge (CreateCq qid qsize prp1 pc) sqs cqs = ap cq_meets (cqs qid)
meets_stands start past judge (Abort sqid cid) sqs cqs = refl
meets_stands start past judge (SetFeatures fid sv cdw11) sqs cqs = refl
meets_stands start past judge (GetFeatures fid) sqs cqs = refl
meets_stands start past judge Other sqs cqs = refl

-- ---- a fetch
-- of the queue itself or of another
abbrev fetched_where : (same out : Bool) → Sq → Sq
fetched_where same out sq = record {
  ring = sq.ring;
  submitted = sq.submitted;
  fetched = if same then sq.fetched + 1 else sq.fetched;
  deleted = sq.deleted;
  excused = (same && out) || sq.excused;
  asked = sq.asked;
  answered = sq.answered;
  doomed = sq.doomed;
  stirred = sq.stirred;
}

fetched_case : (same out : Bool) (own other : Sq) (command : Option Command) → (same ≡ true → own ≡ other) → (same ≡ true → is_some command ≡ out) → (if same then sq_fetched own command else other) ≡ fetched_where same out other
fetched_case true out own other command h g = ap (λ (sq : Sq). sq_fetched sq command) (h refl) ∙ ap (λ (o : Bool). record { ring = other.ring; submitted = other.submitted; fetched = other.fetched + 1; deleted = other.deleted; excused = o || other.excused; asked = other.asked; answered = other.answered; doomed = other.doomed; stirred = other.stirred }) (g refl)
fetched_case false out own other command h g = refl

abbrev taken : ℕ → AdminCommand → ℕ → Bool → Option Command
taken number command mark named = Some (record { number = number; command = command; mark = mark; named = named; owed = false })

abbrev named_where : Bool → Option Command → Option Command
named_where names out = if names then flagged true false out else out

taken_case : (names same : Bool) (out : Option AdminCommand) (command : AdminCommand) (n number m mark : ℕ) (named busy owed : Bool)
    → named_where names (if same then taken number command mark busy else command_with out n m named owed)
    ≡ command_with (if same then Some command else out) (if same then number else n) (if same then mark else m) (names || (if same then busy else named)) (if same then false else owed)
taken_case true true out command n number m mark named busy owed = refl
taken_case true false None command n number m mark named busy owed = refl
taken_case true false (Some held) command n number m mark named busy owed = refl
taken_case false true out command n number m mark named busy owed = refl
taken_case false false out command n number m mark named busy owed = refl

-- what is noted is what the log says, where it is of this command
same_case : (same : Bool) (other : Option Command) (command : AdminCommand) (p number own mark : ℕ) (b busy : Bool) → (same ≡ true → p ≡ number) → own ≡ mark → b ≡ busy
    → (if same then taken p command own b else other) ≡ (if same then taken number command mark busy else other)
same_case true other command p number own mark b busy h g e = ap (λ (k : ℕ). taken k command own b) (h refl) ∙ ap (λ (k : ℕ). taken number command k b) g ∙ ap (taken number command mark) e
same_case false other command p number own mark b busy h g e = refl

abbrev is_busy : Admin → Bool
is_busy admin = nat_lt admin.aborts_answered admin.aborts_asked

left_of : (a b : Bool) → (a && b) ≡ true → a ≡ true
left_of true b h = refl
left_of false b h = cc

lost_case : (own out is lost was : Bool) → (own ≡ true → out ≡ is) → lost ≡ was → ((own && out) || lost) ≡ ((own && is) || was)
lost_case true out is lost was f e = ap (λ (b : Bool). b || lost) (f refl) ∙ ap (λ (b : Bool). is || b) e
lost_case false out is lost was f e = e

pub fetch_stands : (start : Start) (past : Past) (old mid new : Judge) (sq cid : ℕ) (slot : Option ℕ) (command : AdminCommand) → StandsAt start past old → KeepsFetch old mid sq cid command → Asks mid new (asking sq command) → StandsAt start (Fetch sq slot cid command ∷ past) new
fetch_stands start past old mid new sq cid slot command stands keeps asks =
    let sqs : (q : ℕ) → sq_at mid q ≡ fetched_where (sq == q) (is_some (asked past q cid)) (sq_after start past q) = λ q.
    keeps.sqs q
    ∙ fetched_case (sq == q) (is_some (asked past q cid)) (sq_at old sq) (sq_at old q) (command_at old.commands sq cid) (λ e. ap (sq_at old) (eqb-true sq q e))
    (λ e. ap (λ (k : ℕ). is_some (command_at old.commands k cid)) (eqb-true sq q e) ∙ ap (λ (o : Option Command). is_some o) (stands.commands_are q cid) ∙ same_out (asked past q cid) (number_of past q cid) (mark_of past q cid) (was_named past q cid) (owes past q cid))
    ∙ ap (fetched_where (sq == q) (is_some (asked past q cid))) (stands.sqs_are q) in
    let cqs : (q : ℕ) → cq_at mid q ≡ cq_after start past q = λ q. keeps.cqs_stay q ∙ stands.cqs_are q in
    let met : meets_at mid (asking sq command) ≡ meets past (asking sq command) = meets_stands start past mid (asking sq command) (λ q. ap sq_meets (sqs q)) cqs in
    record {
      start_is = asks.start_stays ∙ keeps.start_stays ∙ stands.start_is;
      lost_is = asks.lost_stays ∙ keeps.lost ∙ lost_case (sq == 0) _ _ old.lost _ (λ e. ap (λ (o : Option Command). is_some o) (stands.commands_are sq cid) ∙ same_out (asked past sq cid) (number_of past sq cid) (mark_of past sq cid) (was_named past sq cid) (owes past sq cid)) stands.lost_is;
      sqs_are = λ q. asks.sqs q ∙ ap (sq_asking (asking sq command) q) (sqs q);
      cqs_are = λ q. asks.cqs q ∙ ap (cq_asking (asking sq command) q) (cqs q);
      admin_is = asks.admin ∙ ap (λ (b : Bool). admin_asking b (asking sq command) mid.admin) met ∙ ap (admin_asking (meets past (asking sq command)) (asking sq command)) (keeps.admin_stays ∙ stands.admin_is);
      commands_are = λ q c. asks.commands q c ∙ ap (named_where (names (asking sq command) q c)) (
          keeps.commands q c
          ∙ same_case ((sq == q) && (cid == c)) (command_at old.commands q c) command (sq_at old sq).fetched (fetched past q) (mark_at old command) (mark_for past command) (is_busy old.admin) (is_busy (admin_after past))
          (λ e. ap (λ (k : ℕ). (sq_at old k).fetched) (eqb-true sq q (left_of (sq == q) (cid == c) e)) ∙ ap (λ (s : Sq). s.fetched) (stands.sqs_are q))
          (mark_stands start past old command stands)
          (ap is_busy stands.admin_is)
          ∙ ap (λ (o : Option Command). if (sq == q) && (cid == c) then taken (fetched past q) command (mark_for past command) (is_busy (admin_after past)) else o) (stands.commands_are q c)
          ) ∙ taken_case (names (asking sq command) q c) ((sq == q) && (cid == c)) (asked past q c) command (number_of past q c) (fetched past q) (mark_of past q c) (mark_for past command) (was_named past q c) (is_busy (admin_after past)) (owes past q c);
    }

-- ---- a completion
-- of the queue itself or of another
abbrev posted_where : Bool → Cq → Cq
posted_where same cq = record {
  qsize = cq.qsize;
  posted = if same then cq.posted + 1 else cq.posted;
  consumed = cq.consumed;
  excused = cq.excused;
  asked = cq.asked;
  answered = cq.answered;
  joined = cq.joined;
  parted = cq.parted;
  early = (same && (is_none cq.qsize && nat_lt cq.answered cq.asked)) || cq.early;
}

posted_case : (same : Bool) (own other : Cq) → (same ≡ true → own ≡ other) → (if same then cq_posted own else other) ≡ posted_where same other
posted_case true own other h = ap cq_posted (h refl)
posted_case false own other h = refl

-- of its submission queue or of another
abbrev ended_where : Bool → Completion → Sq → Sq
ended_where same completion sq = record {
  ring = sq.ring;
  submitted = sq.submitted;
  fetched = sq.fetched;
  deleted = sq.deleted;
  excused = sq.excused;
  asked = sq.asked;
  answered = sq.answered;
  doomed = sq.doomed;
  stirred = if same && is_aborted completion.status then sq.stirred + 1 else sq.stirred;
}

ended_case : (same : Bool) (completion : Completion) (own other : Sq) → (same ≡ true → own ≡ other) → (if same then sq_ended completion own else other) ≡ ended_where same completion other
ended_case true completion own other h = ap (sq_ended completion) (h refl)
ended_case false completion own other h = refl

abbrev owed_where : Bool → Option Command → Option Command
owed_where told out = if told then flagged false true out else out

gone_case : (turned told named : Bool) (out : Option AdminCommand) (n m : ℕ) (was owed : Bool)
    → (if turned then None else owed_where told (if named then None else command_with out n m was owed)) ≡ command_with (if turned then None else (if named then None else out)) n m was (told || owed)
gone_case true told named out n m was owed = refl
gone_case false true true out n m was owed = refl
gone_case false false true out n m was owed = refl
gone_case false true false None n m was owed = refl
gone_case false true false (Some command) n m was owed = refl
gone_case false false false out n m was owed = refl

pub post_stands : (start : Start) (past : Past) (old mid noted told turned new : Judge) (cq : ℕ) (slot : Option ℕ) (completion : Completion) (reply command : AdminCommand) (says : Bool)
    → StandsAt start past old
    → reply ≡ answered_in (command_at old.commands 0 completion.cid) completion
    → says ≡ told_at old completion reply
    → command ≡ done_by (command_in (command_at old.commands 0 completion.cid)) completion
    → KeepsPost old mid cq completion
    → Owes mid noted reply says
    → Answers noted told reply
    → Turns told turned command
    → Notes turned new command completion.dw0
    → StandsAt start (Post cq slot completion ∷ past) new
post_stands start past old mid noted told turned new cq slot completion reply command says stands replies is_told is posts owing answers turns notes =
    let held : command_in (command_at old.commands 0 completion.cid) ≡ asked past 0 completion.cid =
    ap command_in (stands.commands_are 0 completion.cid) ∙ command_in-with (asked past 0 completion.cid) (number_of past 0 completion.cid) (mark_of past 0 completion.cid) (was_named past 0 completion.cid) (owes past 0 completion.cid) in
    let marked : mark_in (command_at old.commands 0 completion.cid) ≡ mark_if (asked past 0 completion.cid) (mark_of past 0 completion.cid) =
    ap mark_in (stands.commands_are 0 completion.cid) ∙ mark_in-with (asked past 0 completion.cid) (number_of past 0 completion.cid) (mark_of past 0 completion.cid) (was_named past 0 completion.cid) (owes past 0 completion.cid) in
    let ends : command ≡ done past completion = is ∙ ap (λ (out : Option AdminCommand). done_by out completion) held in
    let said : reply ≡ answered past completion = replies ∙ ap (λ (out : Option AdminCommand). answered_by out completion) held in
    let says_so : says ≡ told_of (stirred past (sq_named (answered past completion))) (mark_if (asked past 0 completion.cid) (mark_of past 0 completion.cid)) completion =
    is_told ∙ ap (told_at old completion) said
    ∙ ap (λ (sq : Sq). told_of sq.stirred (mark_in (command_at old.commands 0 completion.cid)) completion) (stands.sqs_are (sq_named (answered past completion)))
    ∙ ap (λ (m : ℕ). told_of (stirred past (sq_named (answered past completion))) m completion) marked in
    let sqs : (q : ℕ) → sq_at told q ≡ sq_answering (answered past completion) q (ended_where (completion.sq == q) completion (sq_after start past q)) = λ q.
    answers.sqs q ∙ ap (λ (a : AdminCommand). sq_answering a q (sq_at noted q)) said
    ∙ ap (sq_answering (answered past completion) q) (
    owing.sqs_stay q ∙ posts.sqs q ∙ ended_case (completion.sq == q) completion (sq_at old completion.sq) (sq_at old q) (λ e. ap (sq_at old) (eqb-true completion.sq q e)) ∙ ap (ended_where (completion.sq == q) completion) (stands.sqs_are q)
    ) in
    let cqs : (q : ℕ) → cq_at told q ≡ cq_answering (answered past completion) q (posted_where (cq == q) (cq_after start past q)) = λ q.
    answers.cqs q ∙ ap (λ (a : AdminCommand). cq_answering a q (cq_at noted q)) said
    ∙ ap (cq_answering (answered past completion) q) (owing.cqs_stay q ∙ posts.cqs q ∙ posted_case (cq == q) (cq_at old cq) (cq_at old q) (λ e. ap (cq_at old) (eqb-true cq q e)) ∙ ap (posted_where (cq == q)) (stands.cqs_are q)) in
    let ended : ring_ended_at told command ≡ ring_ended start past (done past completion) = ap (ring_ended_at told) ends ∙ ring_stands start past told (done past completion) (λ q. ap (λ (s : Sq). s.ring) (sqs q)) in
    record {
      lost_is = notes.lost_stays ∙ turns.lost_stays ∙ answers.lost_stays ∙ owing.lost_stays ∙ posts.lost_stays ∙ stands.lost_is;
      start_is = notes.start_stays ∙ turns.start_stays ∙ answers.start_stays ∙ owing.start_stays ∙ posts.start_stays ∙ stands.start_is;
      sqs_are = λ q. notes.sqs_stay q ∙ turns.sqs q ∙ ap (λ (d : AdminCommand). sq_turned d q (sq_at told q)) ends ∙ ap (sq_turned (done past completion) q) (sqs q);
      cqs_are = λ q. notes.cqs_stay q ∙ turns.cqs q ∙ ap (λ (r : Option Ring). cq_turned command r q (cq_at told q)) ended
          ∙ ap (λ (d : AdminCommand). cq_turned d (ring_ended start past (done past completion)) q (cq_at told q)) ends
          ∙ ap (cq_turned (done past completion) (ring_ended start past (done past completion)) q) (cqs q);
      admin_is = notes.admin ∙ ap (λ (d : AdminCommand). admin_noting d completion.dw0 turned.admin) ends
          ∙ ap (admin_noting (done past completion) completion.dw0) (turns.admin_stays ∙ answers.admin ∙ ap (λ (a : AdminCommand). admin_answering a noted.admin) said ∙ ap (admin_answering (answered past completion)) (owing.admin_stays ∙ posts.admin_stays ∙ stands.admin_is));
      commands_are = λ q c. ap (λ (commands : Commands). command_at commands q c) notes.commands_stay ∙ turns.commands q c ∙ ap (λ (d : AdminCommand). if turns_sq d q then None else command_at told.commands q c) ends
          ∙ ap (λ (out : Option Command). if turns_sq (done past completion) q then None else out) (
          ap (λ (commands : Commands). command_at commands q c) answers.commands_stay ∙ owing.commands q c
          ∙ ap (λ (a : AdminCommand). owed_where (names a q c && says) (command_at mid.commands q c)) said
          ∙ ap (λ (b : Bool). owed_where (names (answered past completion) q c && b) (command_at mid.commands q c)) says_so
          ∙ ap (owed_where (names (answered past completion) q c && told_of (stirred past (sq_named (answered past completion))) (mark_if (asked past 0 completion.cid) (mark_of past 0 completion.cid)) completion)) (posts.commands q c ∙ ap (λ (out : Option Command). if (completion.sq == q) && (completion.cid == c) then None else out) (stands.commands_are q c))
          )
          ∙ gone_case (turns_sq (done past completion) q) (names (answered past completion) q c && told_of (stirred past (sq_named (answered past completion))) (mark_if (asked past 0 completion.cid) (mark_of past 0 completion.cid)) completion) ((completion.sq == q) && (completion.cid == c)) (asked past q c) (number_of past q c) (mark_of past q c) (was_named past q c) (owes past q c);
    }

-- what holds on success follows on success
pub on_ok : {A E P Q : Type 0} (r : Result A E) → (P → Q) → OnOk r P → OnOk r Q
on_ok (Ok a) f h = f h
on_ok (Err e) f h = h

pub match_false : (P Q : Type 0) (b : Bool) → b ≡ false → Q → MatchBool b P Q
match_false P Q true h q = cc
match_false P Q false h q = q
