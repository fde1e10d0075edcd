-- What a log says to an observer who sees less of it: the same, but for what nobody tells.
use Rattle.std.proofs.Common.{◌≡◌, ◌⊎◌, inl, inr, ℕ, ◌+◌, ◌≤◌, ◌==◌, ◌&&◌, ◌||◌, not, nat_lt, Bool, true, false, if◌then◌else◌, ◌∷◌, Option, None, Some, is_none, is_some, refl, sym, ap, ◌∙◌, arith}
use Rattle.std.proofs.lemmas.Bool.{eqb-true}
use Rattle.nvme_entry.specs.declared.admin.AdminCommand.{AdminCommand}
use Rattle.nvme_entry.specs.declared.admin.AdminCommand.TheVariants.{DeleteSq, CreateSq, DeleteCq, CreateCq, Abort, SetFeatures, GetFeatures, Other}
use Rattle.nvme_audit.specs.declared.event.Event.TheVariants.{Tail, Head, Fetch, Post}
use Rattle.nvme_audit.specs.declared.event.Completion.{Completion}
use Rattle.nvme_audit.specs.declared.facts.Start.{Start}
use Rattle.nvme_audit.specs.declared.facts.Tells.{Tells}
use Rattle.nvme_audit.specs.declared.facts.Ring.{Ring}
use Rattle.nvme_audit.specs.declared.facts.Sq.{Sq}
use Rattle.nvme_audit.specs.declared.facts.Cq.{Cq}
use Rattle.nvme_audit.specs.declared.facts.Admin.{Admin}
use Rattle.nvme_audit.specs.Lives.{Past, asked, turns_sq, done_by, done}
use Rattle.nvme_audit.specs.Queues.{ring_by, ring_of, deletes_sq, was_deleted, turns_cq, qsize_by, qsize_of, deletes_cq}
use Rattle.nvme_audit.specs.Rings.{advanced, advanced_where_open, qsize_in, submitted, fetched, posted, consumed, number_of}
use Rattle.nvme_audit.specs.Turns.{asking, answered_by, answered, sq_named, is_of_sqs, sq_asks, sq_replies, cq_asks, cq_replies, sqs_asks, sqs_replies, meets, have_met, was_doomed, joins, joined, is_on, ring_ended, parted, creates, was_created, number_of_queues, told_first, numbers_by, numbers}
use Rattle.nvme_audit.specs.Aborts.{is_abort, names, is_aborted, stirred, told_of, was_named, aborts_asked, aborts_answered}
use Rattle.nvme_audit.specs.Marks.{mark_for, mark_of, mark_if, owes}
use Rattle.nvme_audit.specs.Early.{is_early}
use Rattle.nvme_audit.specs.Shows.{IsShown, with_fields}
use Rattle.nvme_audit.specs.Answers.{are_numbers}
use Rattle.nvme_audit.specs.Coverage.{sets_numbers}
use Rattle.nvme_audit.proofs.HeadLemmas.{next_of}
use Rattle.nvme_audit.proofs.KeptLemmas.{both, join, told_still, abort_bound, mark_bound, mark_least}

-- ---- what an observer knows as well as another
-- of a submission queue, of a completion queue, and of the admin commands
abbrev pub sq_known : Start → Past → ℕ → Sq
sq_known start past q = record {
  ring = ring_of start past q;
  submitted = 0;
  fetched = fetched past q;
  deleted = was_deleted past q;
  excused = false;
  asked = sq_asks past q;
  answered = sq_replies past q;
  doomed = was_doomed past q;
  stirred = stirred past q;
}

abbrev pub cq_known : Start → Past → ℕ → Cq
cq_known start past q = record {
  qsize = qsize_of start past q;
  posted = posted past q;
  consumed = 0;
  excused = false;
  asked = cq_asks past q;
  answered = cq_replies past q;
  joined = joined past q;
  parted = parted start past q;
  early = false;
}

abbrev admin_known : Past → Admin
admin_known past = record {
  asked = sqs_asks past;
  answered = sqs_replies past;
  met = false;
  created = was_created past;
  numbers = None;
  aborts_asked = aborts_asked past;
  aborts_answered = aborts_answered past;
}

-- a command of a queue that was ever deleted isn't judged where completions may be read late
abbrev IsUnjudged : Tells → Past → ℕ → Type 0
IsUnjudged tells past q = (not tells.posts && was_deleted past q) ≡ true

-- what one log says to an observer with these `tells`, another says with a start of the same sizes
pub record IsSeen (start now : Start) (past less : Past) : Type 0 where
  pub asked_is : (q c : ℕ) → asked less q c ≡ asked past q c
  pub number_is : (q c : ℕ) → number_of less q c ≡ number_of past q c
  pub sq_is : (q : ℕ) → sq_known now less q ≡ sq_known start past q
  pub cq_is : (q : ℕ) → cq_known now less q ≡ cq_known start past q
  pub admin_is : admin_known less ≡ admin_known past
  -- what doorbells say
  pub submitted_is : now.tells.tails ≡ true → (q : ℕ) → submitted now less q ≡ submitted start past q
  pub submitted_le : (q : ℕ) → submitted now less q ≤ submitted start past q
  pub consumed_is : now.tells.heads ≡ true → (q : ℕ) → consumed now less q ≡ consumed start past q
  pub consumed_le : (q : ℕ) → consumed now less q ≤ consumed start past q
  -- what is held against the controller
  pub numbers_are : IsShown (numbers past) (numbers less)
  pub early : (q : ℕ) → is_early start past q ≡ true → is_early now less q ≡ true
  pub met : have_met past ≡ true → have_met less ≡ true
  pub marked : (q c : ℕ) → mark_of less q c ≤ mark_of past q c
  pub named : (q c : ℕ) → was_named past q c ≡ true → was_named less q c ≡ true
  pub owed : (q c : ℕ) → is_some (asked past q c) ≡ true → owes less q c ≡ true → (owes past q c ≡ true) ⊎ IsUnjudged now.tells less q

-- ---- one event more of both
-- what a fetch changes
abbrev sq_asked : AdminCommand → Bool → ℕ → Sq → Sq
sq_asked command own q sq = record {
  ring = sq.ring;
  submitted = 0;
  fetched = if own then sq.fetched + 1 else sq.fetched;
  deleted = sq.deleted;
  excused = false;
  asked = if turns_sq command q then sq.asked + 1 else sq.asked;
  answered = sq.answered;
  doomed = deletes_sq command q || sq.doomed;
  stirred = sq.stirred;
}

abbrev cq_asked : AdminCommand → ℕ → Cq → Cq
cq_asked command q cq = record {
  qsize = cq.qsize;
  posted = cq.posted;
  consumed = 0;
  excused = false;
  asked = if turns_cq command q then cq.asked + 1 else cq.asked;
  answered = cq.answered;
  joined = cq.joined;
  parted = cq.parted;
  early = false;
}

abbrev admin_asked : AdminCommand → Admin → Admin
admin_asked command admin = record {
  asked = if is_of_sqs command then admin.asked + 1 else admin.asked;
  answered = admin.answered;
  met = false;
  created = admin.created;
  numbers = None;
  aborts_asked = if is_abort command then admin.aborts_asked + 1 else admin.aborts_asked;
  aborts_answered = admin.aborts_answered;
}

-- what a completion changes: `reply` is the command that it answers, and `ends` what it carries to its end
abbrev sq_ended : (reply ends : AdminCommand) → (hits : Bool) → ℕ → Sq → Sq
sq_ended reply ends hits q sq = record {
  ring = ring_by ends q sq.ring;
  submitted = 0;
  fetched = if turns_sq ends q then 0 else sq.fetched;
  deleted = deletes_sq ends q || sq.deleted;
  excused = false;
  asked = sq.asked;
  answered = if turns_sq reply q then sq.answered + 1 else sq.answered;
  doomed = sq.doomed;
  stirred = if turns_sq ends q then (if hits then sq.stirred + 1 else sq.stirred) + 1 else (if hits then sq.stirred + 1 else sq.stirred);
}

abbrev cq_ended : (reply ends : AdminCommand) → Option Ring → (own : Bool) → ℕ → Cq → Cq
cq_ended reply ends ring own q cq = record {
  qsize = qsize_by ends q cq.qsize;
  posted = if turns_cq ends q then 0 else (if own then cq.posted + 1 else cq.posted);
  consumed = 0;
  excused = false;
  asked = cq.asked;
  answered = if turns_cq reply q then cq.answered + 1 else cq.answered;
  joined = if joins ends q then cq.joined + 1 else cq.joined;
  parted = if is_on q ring then cq.parted + 1 else cq.parted;
  early = false;
}

abbrev admin_ended : (reply ends : AdminCommand) → Admin → Admin
admin_ended reply ends admin = record {
  asked = admin.asked;
  answered = if is_of_sqs reply then admin.answered + 1 else admin.answered;
  met = false;
  created = creates ends || admin.created;
  numbers = None;
  aborts_asked = admin.aborts_asked;
  aborts_answered = if is_abort reply then admin.aborts_answered + 1 else admin.aborts_answered;
}

-- what a mark counts is known as well
mark_known : (start now : Start) (past less : Past) (command : AdminCommand) → ((q : ℕ) → sq_known now less q ≡ sq_known start past q) → ((q : ℕ) → cq_known now less q ≡ cq_known start past q) → admin_known less ≡ admin_known past → mark_for less command ≡ mark_for past command
mark_known start now past less (DeleteSq qid) s c a = refl
mark_known start now past less (CreateSq qid qsize prp1 cqid qprio pc) s c a = ap (λ (k : Cq). k.answered) (c cqid)
mark_known start now past less (DeleteCq qid) s c a = ap (λ (k : Admin). k.answered) a
mark_known start now past less (CreateCq qid qsize prp1 pc) s c a = refl
mark_known start now past less (Abort sqid cid) s c a = ap (λ (k : Sq). k.stirred) (s sqid)
mark_known start now past less (SetFeatures fid sv cdw11) s c a = ap (λ (k : Admin). if k.created then 1 else 0) a
mark_known start now past less (GetFeatures fid) s c a = refl
mark_known start now past less Other s c a = refl

meets_known : (start now : Start) (past less : Past) (command : AdminCommand) → ((q : ℕ) → sq_known now less q ≡ sq_known start past q) → ((q : ℕ) → cq_known now less q ≡ cq_known start past q) → meets less command ≡ meets past command
meets_known start now past less (DeleteSq qid) s c = ap (λ (k : Sq). nat_lt k.answered k.asked) (s qid)
meets_known start now past less (CreateSq qid qsize prp1 cqid qprio pc) s c = ap (λ (k : Sq). nat_lt k.answered k.asked) (s qid)
meets_known start now past less (DeleteCq qid) s c = ap (λ (k : Cq). nat_lt k.answered k.asked) (c qid)
meets_known start now past less (CreateCq qid qsize prp1 pc) s c = ap (λ (k : Cq). nat_lt k.answered k.asked) (c qid)
meets_known start now past less (Abort sqid cid) s c = refl
meets_known start now past less (SetFeatures fid sv cdw11) s c = refl
meets_known start now past less (GetFeatures fid) s c = refl
meets_known start now past less Other s c = refl

ended_known : (start now : Start) (past less : Past) (command : AdminCommand) → ((q : ℕ) → sq_known now less q ≡ sq_known start past q) → ring_ended now less command ≡ ring_ended start past command
ended_known start now past less (DeleteSq qid) s = ap (λ (k : Sq). k.ring) (s qid)
ended_known start now past less (CreateSq qid qsize prp1 cqid qprio pc) s = ap (λ (k : Sq). k.ring) (s qid)
ended_known start now past less (DeleteCq qid) s = refl
ended_known start now past less (CreateCq qid qsize prp1 pc) s = refl
ended_known start now past less (Abort sqid cid) s = refl
ended_known start now past less (SetFeatures fid sv cdw11) s = refl
ended_known start now past less (GetFeatures fid) s = refl
ended_known start now past less Other s = refl

or_still : (a b c d : Bool) → (a ≡ true → b ≡ true) → (c ≡ true → d ≡ true) → (a || c) ≡ true → (b || d) ≡ true
or_still true b c d f g h = rw (f refl) refl
or_still false true c d f g h = refl
or_still false false c d f g h = g h

if_least : (own : Bool) (a b c : ℕ) → b ≤ c → (if own then a else b) ≤ (if own then a else c)
if_least true a b c f = omega arith
if_least false a b c f = f

if_both : (own a b c d : Bool) → (a ≡ true → b ≡ true) → (c ≡ true → d ≡ true) → (if own then a else c) ≡ true → (if own then b else d) ≡ true
if_both true a b c d f g h = f h
if_both false a b c d f g h = g h

owed_fetch : (own : Bool) (out : Option AdminCommand) (command : AdminCommand) (less past : Bool) (U : Type 0) → (is_some out ≡ true → less ≡ true → (past ≡ true) ⊎ U)
    → is_some (if own then Some command else out) ≡ true → (if own then false else less) ≡ true → ((if own then false else past) ≡ true) ⊎ U
owed_fetch true out command less past U f h g = cc
owed_fetch false out command less past U f h g = f h g

pub least : (own : Bool) (a b c : ℕ) → a ≤ b → a ≤ c → a ≤ (if own then b else c)
least true a b c f g = f
least false a b c f g = g

pub seen_fetch : (start now : Start) (past less : Past) (sq cid : ℕ) (slot shown : Option ℕ) (command : AdminCommand) → IsSeen start now past less → IsSeen start now (Fetch sq slot cid command ∷ past) (Fetch sq shown cid command ∷ less)
seen_fetch start now past less sq cid slot shown command s =
    let marks : mark_for less command ≡ mark_for past command = mark_known start now past less command s.sq_is s.cq_is s.admin_is in
    record {
      asked_is = λ q c. ap (λ (o : Option AdminCommand). if (sq == q) && (cid == c) then Some command else o) (s.asked_is q c);
      number_is = λ q c. ap (λ (n : ℕ). if (sq == q) && (cid == c) then n else number_of less q c) (ap (λ (k : Sq). k.fetched) (s.sq_is q)) ∙ ap (λ (n : ℕ). if (sq == q) && (cid == c) then fetched past q else n) (s.number_is q c);
      sq_is = λ q. ap (sq_asked (asking sq command) (sq == q) q) (s.sq_is q);
      cq_is = λ q. ap (cq_asked (asking sq command) q) (s.cq_is q);
      admin_is = ap (admin_asked (asking sq command)) s.admin_is;
      submitted_is = s.submitted_is;
      submitted_le = s.submitted_le;
      consumed_is = s.consumed_is;
      consumed_le = s.consumed_le;
      numbers_are = s.numbers_are;
      early = s.early;
      met = or_still _ _ _ _ (λ k. meets_known start now past less (asking sq command) s.sq_is s.cq_is ∙ k) s.met;
      marked = λ q c. rw marks (if_least ((sq == q) && (cid == c)) (mark_for past command) (mark_of less q c) (mark_of past q c) (s.marked q c));
      named = λ q c. or_still (names (asking sq command) q c) (names (asking sq command) q c) _ _ (λ k. k)
          (if_both ((sq == q) && (cid == c)) _ _ (was_named past q c) (was_named less q c) (λ k. ap (λ (a : Admin). nat_lt a.aborts_answered a.aborts_asked) s.admin_is ∙ k) (s.named q c));
      owed = λ q c. owed_fetch ((sq == q) && (cid == c)) (asked past q c) command (owes less q c) (owes past q c) _ (s.owed q c);
    }

-- ---- doorbells
pub open_least : (qsize : Option ℕ) (near far slot : ℕ) → ((n : ℕ) → qsize ≡ Some n → slot ≤ n) → near ≤ far → advanced_where_open qsize near slot ≤ advanced_where_open qsize far slot
open_least None near far slot f h = h
open_least (Some n) near far slot f h = let fits : slot ≤ n = f n refl in (next_of n near slot fits).1 (advanced n far slot) (omega (arith, h)) (next_of n far slot fits).0

pub open_more : (qsize : Option ℕ) (near far slot : ℕ) → near ≤ far → near ≤ advanced_where_open qsize far slot
open_more None near far slot h = h
open_more (Some n) near far slot h = omega (arith, h)

if_le : (own : Bool) (a b c d : ℕ) → (own ≡ true → a ≤ b) → c ≤ d → (if own then a else c) ≤ (if own then b else d)
if_le true a b c d f g = f refl
if_le false a b c d f g = g

pub seen_tail : (start now : Start) (past less : Past) (sq slot : ℕ) → ((n : ℕ) → qsize_in (ring_of start past sq) ≡ Some n → slot ≤ n) → IsSeen start now past less → IsSeen start now (Tail sq slot ∷ past) (Tail sq slot ∷ less)
seen_tail start now past less sq slot fits s = record {
  asked_is = s.asked_is;
  number_is = s.number_is;
  sq_is = s.sq_is;
  cq_is = s.cq_is;
  admin_is = s.admin_is;
  submitted_is = λ t q.
      ap (λ (k : Sq). if sq == q then advanced_where_open (qsize_in k.ring) (submitted now less q) slot else submitted now less q) (s.sq_is q)
      ∙ ap (λ (n : ℕ). if sq == q then advanced_where_open (qsize_in (ring_of start past q)) n slot else n) (s.submitted_is t q);
  submitted_le = λ q.
      rw (ap (λ (k : Sq). k.ring) (s.sq_is q)) (
      if_le (sq == q) _ _ (submitted now less q) (submitted start past q)
      (λ e. open_least (qsize_in (ring_of start past q)) (submitted now less q) (submitted start past q) slot (λ n g. fits n (ap (λ (k : ℕ). qsize_in (ring_of start past k)) (eqb-true sq q e) ∙ g)) (s.submitted_le q))
      (s.submitted_le q)
      );
  consumed_is = s.consumed_is;
  consumed_le = s.consumed_le;
  numbers_are = s.numbers_are;
  early = s.early;
  met = s.met;
  marked = s.marked;
  named = s.named;
  owed = s.owed;
}

pub seen_head : (start now : Start) (past less : Past) (cq slot : ℕ) → ((n : ℕ) → qsize_of start past cq ≡ Some n → slot ≤ n) → IsSeen start now past less → IsSeen start now (Head cq slot ∷ past) (Head cq slot ∷ less)
seen_head start now past less cq slot fits s = record {
  asked_is = s.asked_is;
  number_is = s.number_is;
  sq_is = s.sq_is;
  cq_is = s.cq_is;
  admin_is = s.admin_is;
  submitted_is = s.submitted_is;
  submitted_le = s.submitted_le;
  consumed_is = λ t q.
      ap (λ (k : Cq). if cq == q then advanced_where_open k.qsize (consumed now less q) slot else consumed now less q) (s.cq_is q)
      ∙ ap (λ (n : ℕ). if cq == q then advanced_where_open (qsize_of start past q) n slot else n) (s.consumed_is t q);
  consumed_le = λ q.
      rw (ap (λ (k : Cq). k.qsize) (s.cq_is q)) (
      if_le (cq == q) _ _ (consumed now less q) (consumed start past q)
      (λ e. open_least (qsize_of start past q) (consumed now less q) (consumed start past q) slot (λ n g. fits n (ap (qsize_of start past) (eqb-true cq q e) ∙ g)) (s.consumed_le q))
      (s.consumed_le q)
      );
  numbers_are = s.numbers_are;
  early = s.early;
  met = s.met;
  marked = s.marked;
  named = s.named;
  owed = s.owed;
}

not_told : (b : Bool) {A : Type 0} → b ≡ false → b ≡ true → A
not_told true f t = cc
not_told false f t = cc

-- a doorbell is left out
pub seen_without_tail : (start now : Start) (past less : Past) (sq slot : ℕ) → now.tells.tails ≡ false → IsSeen start now past less → IsSeen start now (Tail sq slot ∷ past) less
seen_without_tail start now past less sq slot f s = record {
  asked_is = s.asked_is;
  number_is = s.number_is;
  sq_is = s.sq_is;
  cq_is = s.cq_is;
  admin_is = s.admin_is;
  submitted_is = λ t q. not_told now.tells.tails f t;
  submitted_le = λ q. least (sq == q) (submitted now less q) _ _ (open_more (qsize_in (ring_of start past q)) (submitted now less q) (submitted start past q) slot (s.submitted_le q)) (s.submitted_le q);
  consumed_is = s.consumed_is;
  consumed_le = s.consumed_le;
  numbers_are = s.numbers_are;
  early = s.early;
  met = s.met;
  marked = s.marked;
  named = s.named;
  owed = s.owed;
}

pub seen_without_head : (start now : Start) (past less : Past) (cq slot : ℕ) → now.tells.heads ≡ false → IsSeen start now past less → IsSeen start now (Head cq slot ∷ past) less
seen_without_head start now past less cq slot f s = record {
  asked_is = s.asked_is;
  number_is = s.number_is;
  sq_is = s.sq_is;
  cq_is = s.cq_is;
  admin_is = s.admin_is;
  submitted_is = s.submitted_is;
  submitted_le = s.submitted_le;
  consumed_is = λ t q. not_told now.tells.heads f t;
  consumed_le = λ q. least (cq == q) (consumed now less q) _ _ (open_more (qsize_of start past q) (consumed now less q) (consumed start past q) slot (s.consumed_le q)) (s.consumed_le q);
  numbers_are = s.numbers_are;
  early = s.early;
  met = s.met;
  marked = s.marked;
  named = s.named;
  owed = s.owed;
}

-- ---- completions
-- the command that is answered, and the one that is carried to its end, whatever fields are told
same_reply : (out : Option AdminCommand) (completion : Completion) (sqhd dw0 : Option ℕ) (phase : Option Bool) → answered_by out (with_fields completion sqhd phase dw0) ≡ answered_by out completion
same_reply None completion sqhd dw0 phase = refl
same_reply (Some command) completion sqhd dw0 phase = refl

same_end : (out : Option AdminCommand) (completion : Completion) (sqhd dw0 : Option ℕ) (phase : Option Bool) → done_by out (with_fields completion sqhd phase dw0) ≡ done_by out completion
same_end None completion sqhd dw0 phase = refl
same_end (Some command) completion sqhd dw0 phase = refl

reply_known : (start now : Start) (past less : Past) (completion : Completion) (sqhd dw0 : Option ℕ) (phase : Option Bool) → IsSeen start now past less → answered less (with_fields completion sqhd phase dw0) ≡ answered past completion
reply_known start now past less completion sqhd dw0 phase s = same_reply (asked less 0 completion.cid) completion sqhd dw0 phase ∙ ap (λ (o : Option AdminCommand). answered_by o completion) (s.asked_is 0 completion.cid)

ends_known : (start now : Start) (past less : Past) (completion : Completion) (sqhd dw0 : Option ℕ) (phase : Option Bool) → IsSeen start now past less → done less (with_fields completion sqhd phase dw0) ≡ done past completion
ends_known start now past less completion sqhd dw0 phase s = same_end (asked less 0 completion.cid) completion sqhd dw0 phase ∙ ap (λ (o : Option AdminCommand). done_by o completion) (s.asked_is 0 completion.cid)

told_shown : (before dw0 now shown : Option ℕ) → are_numbers before dw0 ≡ true → IsShown before now → IsShown dw0 shown → IsShown (told_first before dw0) (told_first now shown)
told_shown None dw0 now shown k s t = elim s [
  | inl n ↦ rw n t
  | inr e ↦ rw e t
]
told_shown (Some n) dw0 now shown k s t = elim s [
  | inl none ↦ rw none (elim t [
    | inl hidden ↦ inl hidden
    | inr told ↦ rw told (go dw0 k)
  ])
  | inr e ↦ inr (rw e refl)
]
  where
    go : (dw0 : Option ℕ) → are_numbers (Some n) dw0 ≡ true → IsShown (Some n) dw0
    go None k = inl refl
    go (Some d) k = inr (ap (λ (x : ℕ). Some x) (sym (eqb-true n d k)))

numbers_shown : (command : AdminCommand) (before dw0 now shown : Option ℕ) → (sets_numbers command ≡ true → are_numbers before dw0 ≡ true) → IsShown before now → IsShown dw0 shown → IsShown (numbers_by command dw0 before) (numbers_by command shown now)
numbers_shown (DeleteSq qid) before dw0 now shown f s t = s
numbers_shown (CreateSq qid qsize prp1 cqid qprio pc) before dw0 now shown f s t = s
numbers_shown (DeleteCq qid) before dw0 now shown f s t = s
numbers_shown (CreateCq qid qsize prp1 pc) before dw0 now shown f s t = s
numbers_shown (Abort sqid cid) before dw0 now shown f s t = s
numbers_shown (SetFeatures fid sv cdw11) before dw0 now shown f s t = go (fid == number_of_queues) f
  where
    go : (own : Bool) → (own ≡ true → are_numbers before dw0 ≡ true) → IsShown (if own then told_first before dw0 else before) (if own then told_first now shown else now)
    go true f = told_shown before dw0 now shown (f refl) s t
    go false f = s
numbers_shown (GetFeatures fid) before dw0 now shown f s t = s
numbers_shown Other before dw0 now shown f s t = s

pub names_abort : (command : AdminCommand) (q c : ℕ) → names command q c ≡ true → is_abort command ≡ true
names_abort (DeleteSq qid) q c h = cc
names_abort (CreateSq qid qsize prp1 cqid qprio pc) q c h = cc
names_abort (DeleteCq qid) q c h = cc
names_abort (CreateCq qid qsize prp1 pc) q c h = cc
names_abort (Abort sqid cid) q c h = refl
names_abort (SetFeatures fid sv cdw11) q c h = cc
names_abort (GetFeatures fid) q c h = cc
names_abort Other q c h = cc

-- what an Abort says to one, it says to the other
pub says_known : (start now : Start) (past less : Past) (completion : Completion) (sqhd dw0 : Option ℕ) (phase : Option Bool) → IsSeen start now past less → IsShown completion.dw0 dw0 → (q : ℕ) → is_abort (answered_by (asked past q completion.cid) completion) ≡ true
    → told_of (stirred less (sq_named (answered_by (asked past q completion.cid) completion))) (mark_if (asked past q completion.cid) (mark_of less q completion.cid)) (with_fields completion sqhd phase dw0) ≡ true
    → told_of (stirred past (sq_named (answered_by (asked past q completion.cid) completion))) (mark_if (asked past q completion.cid) (mark_of past q completion.cid)) completion ≡ true
says_known start now past less completion sqhd dw0 phase s d q a h =
    let k : ℕ = sq_named (answered_by (asked past q completion.cid) completion) in
    told_still (stirred past k) (stirred less k) (mark_if (asked past q completion.cid) (mark_of past q completion.cid)) (mark_if (asked past q completion.cid) (mark_of less q completion.cid)) completion (with_fields completion sqhd phase dw0) refl d
    (omega (arith, ap (λ (x : Sq). x.stirred) (s.sq_is k)))
    (abort_bound (asked past q completion.cid) completion (stirred past) (mark_of past q completion.cid) (λ sqid cid e. mark_bound past q completion.cid sqid cid e) a)
    (mark_least (asked past q completion.cid) (mark_of less q completion.cid) (mark_of past q completion.cid) (s.marked q completion.cid))
    h

some_before : (turned named : Bool) (out : Option AdminCommand) → is_some (if turned then None else (if named then None else out)) ≡ true → is_some out ≡ true
some_before true named out h = cc
some_before false true out h = cc
some_before false false out h = h

pub deleted_after : (posts deletes was : Bool) → (not posts && was) ≡ true → (not posts && (deletes || was)) ≡ true
deleted_after posts true was h = join _ _ (both (not posts) was h).0 refl
deleted_after posts false was h = h

either_owed : (a b c d : Bool) (U V : Type 0) → (a ≡ true → c ≡ true) → (b ≡ true → (d ≡ true) ⊎ U) → (U → V) → (a || b) ≡ true → ((c || d) ≡ true) ⊎ V
either_owed true b c d U V f g u h = inl (rw (f refl) refl)
either_owed false b c d U V f g u h = elim (g h) [
  | inl o ↦ inl (second c d o)
  | inr k ↦ inr (u k)
]
  where
    second : (c d : Bool) → d ≡ true → (c || d) ≡ true
    second true d o = refl
    second false d o = o

early_known : (ends own room seen early now : Bool) → (room ≡ true → seen ≡ true) → (early ≡ true → now ≡ true) → (not ends && ((own && room) || early)) ≡ true → (not ends && ((own && seen) || now)) ≡ true
early_known true own room seen early now f g h = cc
early_known false true room seen early now f g h = or_still room seen early now f g h
early_known false false room seen early now f g h = g h

pub seen_post : (start now : Start) (past less : Past) (cq : ℕ) (slot shown : Option ℕ) (completion : Completion) (sqhd dw0 : Option ℕ) (phase : Option Bool) → (sets_numbers (done past completion) ≡ true → are_numbers (numbers past) completion.dw0 ≡ true)
    → IsShown completion.dw0 dw0 → IsSeen start now past less → IsSeen start now (Post cq slot completion ∷ past) (Post cq shown (with_fields completion sqhd phase dw0) ∷ less)
seen_post start now past less cq slot shown completion sqhd dw0 phase told d s =
    let reply : answered less (with_fields completion sqhd phase dw0) ≡ answered past completion = reply_known start now past less completion sqhd dw0 phase s in
    let ends : done less (with_fields completion sqhd phase dw0) ≡ done past completion = ends_known start now past less completion sqhd dw0 phase s in
    record {
      asked_is = λ q c. rw (ends, s.asked_is q c) refl;
      number_is = s.number_is;
      sq_is = λ q. rw (ends, reply) (ap (sq_ended (answered past completion) (done past completion) ((completion.sq == q) && is_aborted completion.status) q) (s.sq_is q));
      cq_is = λ q. rw (ends, reply, ended_known start now past less (done past completion) s.sq_is) (ap (cq_ended (answered past completion) (done past completion) (ring_ended start past (done past completion)) (cq == q) q) (s.cq_is q));
      admin_is = rw (ends, reply) (ap (admin_ended (answered past completion) (done past completion)) s.admin_is);
      submitted_is = λ t q. rw (ends, s.submitted_is t q) refl;
      submitted_le = λ q. rw ends (if_le (turns_sq (done past completion) q) 0 0 (submitted now less q) (submitted start past q) (λ e. omega arith) (s.submitted_le q));
      consumed_is = λ t q. rw (ends, s.consumed_is t q) refl;
      consumed_le = λ q. rw ends (if_le (turns_cq (done past completion) q) 0 0 (consumed now less q) (consumed start past q) (λ e. omega arith) (s.consumed_le q));
      numbers_are = rw ends (numbers_shown (done past completion) (numbers past) completion.dw0 (numbers less) dw0 told s.numbers_are d);
      early = λ q. rw ends (early_known (deletes_cq (done past completion) q) (cq == q) _ _ (is_early start past q) (is_early now less q) (λ k. ap (λ (c : Cq). is_none c.qsize && nat_lt c.answered c.asked) (s.cq_is q) ∙ k) (s.early q));
      met = s.met;
      marked = s.marked;
      named = s.named;
      owed = λ q c out owes_it.
          either_owed _ (owes less q c) (names (answered past completion) q c && told_of (stirred past (sq_named (answered past completion))) (mark_if (asked past 0 completion.cid) (mark_of past 0 completion.cid)) completion) (owes past q c) _ _
          (λ t. let u = both (names (answered past completion) q c) _ (rw (reply, s.asked_is 0 completion.cid) at t) in
          join _ _ u.0 (says_known start now past less completion sqhd dw0 phase s d 0 (names_abort (answered past completion) q c u.0) u.1))
          (s.owed q c (some_before _ _ (asked past q c) out))
          (deleted_after now.tells.posts (deletes_sq (done less (with_fields completion sqhd phase dw0)) q) (was_deleted less q))
          owes_it;
    }
