-- A completion that is told after a doorbell or a fetch.
use Rattle.std.proofs.Common.{◌≡◌, ◌⊎◌, inl, inr, ℕ, ◌+◌, ◌≤◌, ◌==◌, ◌&&◌, ◌||◌, not, nat_lt, Bool, true, false, if◌then◌else◌, [], ◌∷◌, Option, None, Some, is_some, is_none, refl, sym, subst, ap, ◌∙◌, arith}
use Rattle.std.proofs.lemmas.Bool.{eqb-true, eq-eqb, ltb-true, lt-ltb}
use Rattle.nvme_entry.specs.declared.admin.AdminCommand.{AdminCommand}
use Rattle.nvme_entry.specs.declared.admin.AdminCommand.TheVariants.{DeleteSq, CreateSq, DeleteCq, CreateCq, Abort, SetFeatures, GetFeatures, Other}
use Rattle.nvme_audit.specs.declared.event.Event.{Event}
use Rattle.nvme_audit.specs.declared.event.Event.TheVariants.{Tail, Head, Fetch, Post}
use Rattle.nvme_audit.specs.declared.event.Completion.{Completion}
use Rattle.nvme_audit.specs.declared.facts.Start.{Start}
use Rattle.nvme_audit.specs.declared.facts.Ring.{Ring}
use Rattle.nvme_audit.specs.declared.verdict.Verdict.TheVariants.{Kept, Host}
use Rattle.nvme_audit.specs.declared.verdict.Breach.TheVariants.{HeadRange}
use Rattle.nvme_audit.specs.Lives.{Past, asked, turns_sq, done_by, done}
use Rattle.nvme_audit.specs.Queues.{ring_by, ring_of, deletes_sq, was_deleted, turns_cq, qsize_by, qsize_of, deletes_cq}
use Rattle.nvme_audit.specs.Rings.{advanced, advanced_where_open, qsize_in, submitted, fetched, posted, consumed, number_of}
use Rattle.nvme_audit.specs.Turns.{is_of_sqs, asking, answered_by, answered, sq_named, cq_named, cid_named, sq_asks, sq_replies, cq_asks, cq_replies, sqs_asks, sqs_replies, meets, have_met, was_doomed, joined, parted, ring_ended, creates, was_created, numbers}
use Rattle.nvme_audit.specs.Aborts.{is_abort, is_aborted, names, stirred, told_of, was_named, aborts_asked, aborts_answered}
use Rattle.nvme_audit.specs.Marks.{mark_for, mark_of, mark_if, owes}
use Rattle.nvme_audit.specs.Early.{may_be_open, is_early}
use Rattle.nvme_audit.specs.Host.{tail_rules, head_rules, is_lost, is_sq_excused, is_cq_excused}
use Rattle.nvme_audit.specs.Facts.{sq_after, cq_after, admin_after, outstanding}
use Rattle.nvme_audit.specs.Rules.{fetch_rules}
use Rattle.nvme_audit.specs.Answers.{answered_in, mark_in, is_untrue_abort}
use Rattle.nvme_audit.specs.Lawful.{verdict, is_broken, IsLawfulLog, IsFaultlessLog}
use Rattle.nvme_audit.specs.Shows.{TellsLess, seen_by}
use Rattle.nvme_audit.specs.LateReads.{ReadsLater, over_tail, over_head, over_fetch, over_post, before, ReadsLate, none, more, LateIsFaultless, ProjectionsAreLawful}
use Rattle.nvme_audit.proofs.StepLemmas.{same_out}
use Rattle.nvme_audit.proofs.OnceLemmas.{none_excused, is_ruled, rules_free}
use Rattle.nvme_audit.proofs.KeptLemmas.{not_excused, unless_excused, both, join, tail_fits, head_fits, fetch_still, reply_is, mark_is, none_is, admin_closed, IsPostedAt, posted_at, kept_at, numbers_kept, possible}
use Rattle.nvme_audit.proofs.MilderLemmas.{neither, posted_still}
use Rattle.nvme_audit.proofs.SeenLemmas.{sq_known, cq_known, IsSeen, least, open_more, names_abort, deleted_after, seen_tail, seen_head, seen_fetch, seen_post}
use Rattle.nvme_audit.proofs.ShowsLemmas.{less_is_faultless, tail_seen, head_seen, fetch_seen, post_seen}

-- ---- what a completion reads, an event later
pub record IsAfter (start : Start) (past now : Past) (cq q c : ℕ) (aborts : Bool) : Type 0 where
  pub out_is : asked now q c ≡ asked past q c
  pub number_is : number_of now q c ≡ number_of past q c
  pub mark_is : mark_of now q c ≡ mark_of past q c
  pub owes_is : owes now q c ≡ owes past q c
  pub named : was_named past q c ≡ true → was_named now q c ≡ true
  pub gone : aborts ≡ true → (k j : ℕ) → is_none (asked now k j) ≡ true → is_none (asked past k j) ≡ true
  pub ring_is : (k : ℕ) → ring_of start now k ≡ ring_of start past k
  pub deleted_is : (k : ℕ) → was_deleted now k ≡ was_deleted past k
  pub stirred_is : aborts ≡ true → (k : ℕ) → stirred now k ≡ stirred past k
  pub fetched : (k : ℕ) → fetched past k ≤ fetched now k
  pub doomed : (k : ℕ) → was_doomed past k ≡ true → was_doomed now k ≡ true
  pub qsize_is : (k : ℕ) → qsize_of start now k ≡ qsize_of start past k
  pub posted_is : posted now cq ≡ posted past cq
  pub consumed : consumed start past cq ≤ consumed start now cq
  pub answered : cq_replies now cq ≤ cq_replies past cq
  pub early : is_early start past cq ≡ true → is_early start now cq ≡ true
  pub joined_is : (k : ℕ) → joined now k ≡ joined past k
  pub parted_is : (k : ℕ) → parted start now k ≡ parted start past k
  pub cq_asked : (k : ℕ) → cq_asks past k ≤ cq_asks now k
  pub sqs_asked : sqs_asks past ≤ sqs_asks now
  pub met : have_met past ≡ true → have_met now ≡ true
  pub numbers_are : numbers now ≡ numbers past

pub post_after : (start : Start) (past now : Past) (cq : ℕ) (slot : Option ℕ) (completion : Completion) → IsAfter start past now cq completion.sq completion.cid (is_abort (answered_by (asked past completion.sq completion.cid) completion))
    → IsFaultlessLog start past → IsFaultlessLog start now → verdict start past (Post cq slot completion) ≡ Kept → verdict start now (Post cq slot completion) ≡ Kept
post_after start past now cq slot completion s log later h =
    let q : ℕ = completion.sq in
    let c : ℕ = completion.cid in
    let out : Option AdminCommand = asked past q c in
    let reply : AdminCommand = answered_by out completion in
    let is : answered_in (outstanding past q c) completion ≡ reply = reply_is out (number_of past q c) (mark_of past q c) (was_named past q c) (owes past q c) completion in
    let now_is : answered_in (outstanding now q c) completion ≡ reply =
    reply_is (asked now q c) (number_of now q c) (mark_of now q c) (was_named now q c) (owes now q c) completion ∙ ap (λ (o : Option AdminCommand). answered_by o completion) s.out_is in
    kept_at start now cq slot completion later
    (subst (λ (r : AdminCommand). IsPostedAt start now cq slot completion r) (sym now_is)
    (rw (s.out_is, s.number_is) (
    posted_still start.tells start.tells cq (cq_after start past cq) (cq_after start now cq) (cq_after start past (cq_named reply)) (cq_after start now (cq_named reply)) (sq_after start past q) (sq_after start now q) (sq_after start past (sq_named reply)) (sq_after start now (sq_named reply)) (admin_after past) (admin_after now)
    out (number_of past q c) (mark_of past q c) (mark_of now q c) (was_named past q c) (was_named now q c) (owes past q c) (owes now q c) (outstanding past (sq_named reply) (cid_named reply)) (outstanding now (sq_named reply) (cid_named reply)) slot slot completion completion.sqhd completion.dw0 completion.phase (inr refl) (inr refl) (inr refl) (inr refl)
    (record {
      consumed = λ e. (e, s.consumed);
      posted_is = s.posted_is;
      qsize_is = s.qsize_is cq;
      posts = λ e. e;
      answered = s.answered;
      asked = s.cq_asked cq;
      early = s.early;
      skips = λ k. ap (λ (b : Bool). not start.tells.posts && b) (s.deleted_is q) ∙ k;
      skips_own = λ k. ap (λ (b : Bool). not start.tells.posts && b) (s.deleted_is (sq_named reply)) ∙ k;
      judged = (none_excused start now later q).0;
      own_judged = (none_excused start past log (sq_named reply)).0;
      ring_is = λ k. s.ring_is q;
      fetched = λ k. s.fetched q;
      doomed = s.doomed q;
      named_is = s.named;
      marked = omega (arith, s.mark_is);
      owed_is = λ k some owing ended. sym s.owes_is ∙ owing;
      says = λ k w a nobody told. (
        none_is (asked past (sq_named reply) (cid_named reply)) (number_of past (sq_named reply) (cid_named reply)) (mark_of past (sq_named reply) (cid_named reply)) (was_named past (sq_named reply) (cid_named reply)) (owes past (sq_named reply) (cid_named reply))
            ∙ s.gone a (sq_named reply) (cid_named reply) (sym (none_is (asked now (sq_named reply) (cid_named reply)) (number_of now (sq_named reply) (cid_named reply)) (mark_of now (sq_named reply) (cid_named reply)) (was_named now (sq_named reply) (cid_named reply)) (owes now (sq_named reply) (cid_named reply))) ∙ nobody),
        ap (λ (n : ℕ). told_of n (mark_if out (mark_of past q c)) completion) (sym (s.stirred_is a (sq_named reply))) ∙ ap (λ (m : ℕ). told_of (stirred now (sq_named reply)) (mark_if out m) completion) (sym s.mark_is) ∙ told,
      );
      more = record {
        ring_is = s.ring_is (sq_named reply);
        qsize_is = s.qsize_is (cq_named reply);
        joined_is = s.joined_is (cq_named reply);
        parted_is = s.parted_is (cq_named reply);
        cq_asked = s.cq_asked (cq_named reply);
        asked = s.sqs_asked;
        met = s.met;
        possible = possible start past log;
        numbers = inr s.numbers_are;
      };
    })
    (subst (λ (r : AdminCommand). IsPostedAt start past cq slot completion r) is (posted_at start past cq slot completion log h))
    )))

-- ---- over a tail
ring_stays : (command : AdminCommand) (q : ℕ) (before : Option Ring) → turns_sq command q ≡ false → ring_by command q before ≡ before
ring_stays (DeleteSq qid) q b h = rw h refl
ring_stays (CreateSq qid qsize prp1 cqid qprio pc) q b h = rw h refl
ring_stays (DeleteCq qid) q b h = refl
ring_stays (CreateCq qid qsize prp1 pc) q b h = refl
ring_stays (Abort sqid cid) q b h = refl
ring_stays (SetFeatures fid sv cdw11) q b h = refl
ring_stays (GetFeatures fid) q b h = refl
ring_stays Other q b h = refl

qsize_stays : (command : AdminCommand) (q : ℕ) (before : Option ℕ) → turns_cq command q ≡ false → qsize_by command q before ≡ before
qsize_stays (DeleteSq qid) q b h = refl
qsize_stays (CreateSq qid qsize prp1 cqid qprio pc) q b h = refl
qsize_stays (DeleteCq qid) q b h = rw h refl
qsize_stays (CreateCq qid qsize prp1 pc) q b h = rw h refl
qsize_stays (Abort sqid cid) q b h = refl
qsize_stays (SetFeatures fid sv cdw11) q b h = refl
qsize_stays (GetFeatures fid) q b h = refl
qsize_stays Other q b h = refl

-- a count that a doorbell moves, or a completion sets back
moved_case : (same turned : Bool) (size later : Option ℕ) (n to : ℕ) → (same ≡ true → turned ≡ false) → (turned ≡ false → later ≡ size)
    → (if turned then 0 else (if same then advanced_where_open size n to else n)) ≡ (if same then advanced_where_open later (if turned then 0 else n) to else (if turned then 0 else n))
moved_case true true size later n to f g = let t : true ≡ false = f refl in cc
moved_case true false size later n to f g = ap (λ (s : Option ℕ). advanced_where_open s n to) (sym (g refl))
moved_case false true size later n to f g = refl
moved_case false false size later n to f g = refl

ended_where : (start : Start) (past now : Past) (command : AdminCommand) → ((q : ℕ) → ring_of start now q ≡ ring_of start past q) → ring_ended start now command ≡ ring_ended start past command
ended_where start past now (DeleteSq qid) f = f qid
ended_where start past now (CreateSq qid qsize prp1 cqid qprio pc) f = f qid
ended_where start past now (DeleteCq qid) f = refl
ended_where start past now (CreateCq qid qsize prp1 pc) f = refl
ended_where start past now (Abort sqid cid) f = refl
ended_where start past now (SetFeatures fid sv cdw11) f = refl
ended_where start past now (GetFeatures fid) f = refl
ended_where start past now Other f = refl

abbrev not_of : (sq cid : ℕ) → Completion → Type 0
not_of sq cid completion = ((sq == completion.sq) && (cid == completion.cid)) ≡ false

after_tail : (start : Start) (past : Past) (sq to cq q c : ℕ) (aborts : Bool) → IsAfter start past (Tail sq to ∷ past) cq q c aborts
after_tail start past sq to cq q c aborts = record {
  out_is = refl;
  number_is = refl;
  mark_is = refl;
  owes_is = refl;
  named = λ k. k;
  gone = λ a k j g. g;
  ring_is = λ k. refl;
  deleted_is = λ k. refl;
  stirred_is = λ a k. refl;
  fetched = λ k. omega arith;
  doomed = λ k d. d;
  qsize_is = λ k. refl;
  posted_is = refl;
  consumed = omega arith;
  answered = omega arith;
  early = λ k. k;
  joined_is = λ k. refl;
  parted_is = λ k. refl;
  cq_asked = λ k. omega arith;
  sqs_asked = omega arith;
  met = λ k. k;
  numbers_are = refl;
}

after_head : (start : Start) (past : Past) (queue to cq q c : ℕ) (aborts : Bool) → IsAfter start past (Head queue to ∷ past) cq q c aborts
after_head start past queue to cq q c aborts = record {
  out_is = refl;
  number_is = refl;
  mark_is = refl;
  owes_is = refl;
  named = λ k. k;
  gone = λ a k j g. g;
  ring_is = λ k. refl;
  deleted_is = λ k. refl;
  stirred_is = λ a k. refl;
  fetched = λ k. omega arith;
  doomed = λ k d. d;
  qsize_is = λ k. refl;
  posted_is = refl;
  consumed = least (queue == cq) (consumed start past cq) _ _ (open_more (qsize_of start past cq) (consumed start past cq) (consumed start past cq) to (omega arith)) (omega arith);
  answered = omega arith;
  early = λ k. k;
  joined_is = λ k. refl;
  parted_is = λ k. refl;
  cq_asked = λ k. omega arith;
  sqs_asked = omega arith;
  met = λ k. k;
  numbers_are = refl;
}

second : (a b : Bool) → b ≡ true → (a || b) ≡ true
second true b h = refl
second false b h = h

none_before : (own : Bool) (command : AdminCommand) (out : Option AdminCommand) → is_none (if own then Some command else out) ≡ true → is_none out ≡ true
none_before true command out h = cc
none_before false command out h = h

one_more : (b : Bool) (n : ℕ) → n ≤ (if b then n + 1 else n)
one_more true n = omega arith
one_more false n = omega arith

after_fetch : (start : Start) (past : Past) (sq cid : ℕ) (of : Option ℕ) (command : AdminCommand) (cq q c : ℕ) (aborts : Bool) → ((sq == q) && (cid == c)) ≡ false → IsAfter start past (Fetch sq of cid command ∷ past) cq q c aborts
after_fetch start past sq cid of command cq q c aborts h = record {
  out_is = rw h refl;
  number_is = rw h refl;
  mark_is = rw h refl;
  owes_is = rw h refl;
  named = λ k. second (names (asking sq command) q c) (if (sq == q) && (cid == c) then nat_lt (aborts_answered past) (aborts_asked past) else was_named past q c) (rw h k);
  gone = λ a k j g. none_before ((sq == k) && (cid == j)) command (asked past k j) g;
  ring_is = λ k. refl;
  deleted_is = λ k. refl;
  stirred_is = λ a k. refl;
  fetched = λ k. one_more (sq == k) (fetched past k);
  doomed = λ k d. second (deletes_sq (asking sq command) k) (was_doomed past k) d;
  qsize_is = λ k. refl;
  posted_is = refl;
  consumed = omega arith;
  answered = omega arith;
  early = λ k. k;
  joined_is = λ k. refl;
  parted_is = λ k. refl;
  cq_asked = λ k. one_more (turns_cq (asking sq command) k) (cq_asks past k);
  sqs_asked = one_more (is_of_sqs (asking sq command)) (sqs_asks past);
  met = λ k. second (meets past (asking sq command)) (have_met past) k;
  numbers_are = refl;
}

-- ---- doorbells
seen_over_tail : (start : Start) (past : Past) (cq : ℕ) (slot : Option ℕ) (completion : Completion) (sq to : ℕ) → turns_sq (done past completion) sq ≡ false
    → IsSeen start start (Tail sq to ∷ Post cq slot completion ∷ past) (Post cq slot completion ∷ Tail sq to ∷ past)
seen_over_tail start past cq slot completion sq to h =
    let moves : (k : ℕ) → submitted start (Post cq slot completion ∷ Tail sq to ∷ past) k ≡ submitted start (Tail sq to ∷ Post cq slot completion ∷ past) k = λ k.
    moved_case (sq == k) (turns_sq (done past completion) k) (qsize_in (ring_of start past k)) (qsize_in (ring_by (done past completion) k (ring_of start past k))) (submitted start past k) to
    (λ e. ap (turns_sq (done past completion)) (sym (eqb-true sq k e)) ∙ h) (λ f. ap qsize_in (ring_stays (done past completion) k (ring_of start past k) f)) in
    record {
      asked_is = λ q c. refl;
      number_is = λ q c. refl;
      sq_is = λ q. refl;
      cq_is = λ q. rw (ended_where start past (Tail sq to ∷ past) (done past completion) (λ k. refl)) refl;
      admin_is = refl;
      submitted_is = λ e k. moves k;
      submitted_le = λ k. omega (arith, moves k);
      consumed_is = λ e k. refl;
      consumed_le = λ k. omega arith;
      numbers_are = inr refl;
      early = λ q k. k;
      met = λ k. k;
      marked = λ q c. omega arith;
      named = λ q c k. k;
      owed = λ q c some o. inl o;
    }

seen_over_head : (start : Start) (past : Past) (cq : ℕ) (slot : Option ℕ) (completion : Completion) (queue to : ℕ) → turns_cq (done past completion) queue ≡ false
    → IsSeen start start (Head queue to ∷ Post cq slot completion ∷ past) (Post cq slot completion ∷ Head queue to ∷ past)
seen_over_head start past cq slot completion queue to h =
    let moves : (k : ℕ) → consumed start (Post cq slot completion ∷ Head queue to ∷ past) k ≡ consumed start (Head queue to ∷ Post cq slot completion ∷ past) k = λ k.
    moved_case (queue == k) (turns_cq (done past completion) k) (qsize_of start past k) (qsize_by (done past completion) k (qsize_of start past k)) (consumed start past k) to
    (λ e. ap (turns_cq (done past completion)) (sym (eqb-true queue k e)) ∙ h) (λ f. qsize_stays (done past completion) k (qsize_of start past k) f) in
    record {
      asked_is = λ q c. refl;
      number_is = λ q c. refl;
      sq_is = λ q. refl;
      cq_is = λ q. rw (ended_where start past (Head queue to ∷ past) (done past completion) (λ k. refl)) refl;
      admin_is = refl;
      submitted_is = λ e k. refl;
      submitted_le = λ k. omega arith;
      consumed_is = λ e k. moves k;
      consumed_le = λ k. omega (arith, moves k);
      numbers_are = inr refl;
      early = λ q k. k;
      met = λ k. k;
      marked = λ q c. omega arith;
      named = λ q c k. k;
      owed = λ q c some o. inl o;
    }

abbrev IsSwapped : Start → Past → Past → Type 0
IsSwapped start past late = IsSeen start start past late × IsFaultlessLog start late

swap_tail : (start : Start) (past : Past) (cq : ℕ) (slot : Option ℕ) (completion : Completion) (sq to : ℕ) → turns_sq (done past completion) sq ≡ false
    → IsFaultlessLog start (Tail sq to ∷ Post cq slot completion ∷ past) → IsSwapped start (Tail sq to ∷ Post cq slot completion ∷ past) (Post cq slot completion ∷ Tail sq to ∷ past)
swap_tail start past cq slot completion sq to h log =
    let rules : tail_rules (qsize_in (ring_of start (Post cq slot completion ∷ past) sq)) (submitted start (Post cq slot completion ∷ past) sq) (fetched (Post cq slot completion ∷ past) sq) to ≡ Kept =
    not_excused (is_sq_excused start (Post cq slot completion ∷ past) sq) _ (none_excused start (Post cq slot completion ∷ past) log.1 sq).0 (is_ruled start (Post cq slot completion ∷ past) (Tail sq to) log.1 log.0) in
    let earlier : IsFaultlessLog start (Tail sq to ∷ past) = (unless_excused (is_lost past) _ (unless_excused (is_sq_excused start past sq) (tail_rules (qsize_in (ring_of start past sq)) (submitted start past sq) (fetched past sq) to) (rw (ring_stays (done past completion) sq (ring_of start past sq) h, h) at rules)), log.1.1) in
    (seen_over_tail start past cq slot completion sq to h, (post_after start past (Tail sq to ∷ past) cq slot completion (after_tail start past sq to cq completion.sq completion.cid _) log.1.1 earlier log.1.0, earlier))

-- a head is no further than the completions before
head_before : (own deletes : Bool) (qsize : Option ℕ) (waits early : Bool) (posted consumed to : ℕ) → (own ≡ true → advanced_where_open qsize consumed to ≤ posted)
    → head_rules qsize (not deletes && ((own && (is_none qsize && waits)) || early)) (if own then posted + 1 else posted) consumed to ≡ Kept → head_rules qsize early posted consumed to ≡ Kept
head_before own deletes None waits early posted consumed to f h = cc
head_before own deletes (Some n) waits true posted consumed to f h = go (nat_lt n to) (not (not deletes && ((own && false) || true)) && nat_lt (if own then posted + 1 else posted) (advanced n consumed to)) h
  where
    go : (a b : Bool) → (if a || b then Host HeadRange else Kept) ≡ Kept → (if a || false then Host HeadRange else Kept) ≡ Kept
    go true b k = cc
    go false b k = refl
head_before false true (Some n) waits false posted consumed to f h = h
head_before false false (Some n) waits false posted consumed to f h = h
head_before true deletes (Some n) waits false posted consumed to f h =
    go (nat_lt n to) (not (not deletes && false) && nat_lt (posted + 1) (advanced n consumed to)) (nat_lt posted (advanced n consumed to)) refl h
  where
    go : (a b c : Bool) → nat_lt posted (advanced n consumed to) ≡ c → (if a || b then Host HeadRange else Kept) ≡ Kept → (if a || c then Host HeadRange else Kept) ≡ Kept
    go true b c e k = cc
    go false b true e k = let far : advanced n consumed to ≤ posted = f refl in absurd (omega (arith, far, ltb-true posted (advanced n consumed to) e))
    go false b false e k = refl

swap_head : (start : Start) (past : Past) (cq : ℕ) (slot : Option ℕ) (completion : Completion) (queue to : ℕ) → turns_cq (done past completion) queue ≡ false
    → ((cq == queue) ≡ true → advanced_where_open (qsize_of start past queue) (consumed start past queue) to ≤ posted past queue)
    → IsFaultlessLog start (Head queue to ∷ Post cq slot completion ∷ past) → IsSwapped start (Head queue to ∷ Post cq slot completion ∷ past) (Post cq slot completion ∷ Head queue to ∷ past)
swap_head start past cq slot completion queue to h released log =
    let rules : head_rules (qsize_of start (Post cq slot completion ∷ past) queue) (is_early start (Post cq slot completion ∷ past) queue) (posted (Post cq slot completion ∷ past) queue) (consumed start (Post cq slot completion ∷ past) queue) to ≡ Kept =
    not_excused (is_cq_excused start (Post cq slot completion ∷ past) queue) _ (none_excused start (Post cq slot completion ∷ past) log.1 queue).1 (is_ruled start (Post cq slot completion ∷ past) (Head queue to) log.1 log.0) in
    let fits : head_rules (qsize_of start past queue) (is_early start (Post cq slot completion ∷ past) queue) (if cq == queue then posted past queue + 1 else posted past queue) (consumed start past queue) to ≡ Kept = rw (qsize_stays (done past completion) queue (qsize_of start past queue) h, h) at rules in
    let earlier : IsFaultlessLog start (Head queue to ∷ past) = (unless_excused (is_lost past) _ (unless_excused (is_cq_excused start past queue) _ (head_before (cq == queue) (deletes_cq (done past completion) queue) (qsize_of start past queue) (nat_lt (cq_replies past queue) (cq_asks past queue)) (is_early start past queue) (posted past queue) (consumed start past queue) to released fits)), log.1.1) in
    (seen_over_head start past cq slot completion queue to h, (post_after start past (Head queue to ∷ past) cq slot completion (after_head start past queue to cq completion.sq completion.cid _) log.1.1 earlier log.1.0, earlier))

-- ---- over a fetch
other_end : (out : Option AdminCommand) (completion : Completion) → (completion.sq == 0) ≡ false → done_by out completion ≡ Other
other_end None completion h = refl
other_end (Some command) completion h = rw h refl

other_reply : (out : Option AdminCommand) (completion : Completion) → (completion.sq == 0) ≡ false → answered_by out completion ≡ Other
other_reply None completion h = refl
other_reply (Some command) completion h = rw h refl

end_case : (own : Bool) (command : AdminCommand) (out : Option AdminCommand) (completion : Completion) → (own ≡ true → (completion.sq == 0) ≡ false) → done_by (if own then Some command else out) completion ≡ done_by out completion
end_case true command out completion f = other_end (Some command) completion (f refl) ∙ sym (other_end out completion (f refl))
end_case false command out completion f = refl

reply_case : (own : Bool) (command : AdminCommand) (out : Option AdminCommand) (completion : Completion) → (own ≡ true → (completion.sq == 0) ≡ false) → answered_by (if own then Some command else out) completion ≡ answered_by out completion
reply_case true command out completion f = other_reply (Some command) completion (f refl) ∙ sym (other_reply out completion (f refl))
reply_case false command out completion f = refl

says_case : (own : Bool) (command : AdminCommand) (out : Option AdminCommand) (mark noted : ℕ) (stirs : ℕ → ℕ) (completion : Completion) (q c : ℕ) → (own ≡ true → (completion.sq == 0) ≡ false)
    → (names (answered_by (if own then Some command else out) completion) q c && told_of (stirs (sq_named (answered_by (if own then Some command else out) completion))) (mark_if (if own then Some command else out) (if own then noted else mark)) completion)
    ≡ (names (answered_by out completion) q c && told_of (stirs (sq_named (answered_by out completion))) (mark_if out mark) completion)
says_case true command out mark noted stirs completion q c f =
    ap (λ (r : AdminCommand). names r q c && told_of (stirs (sq_named r)) noted completion) (other_reply (Some command) completion (f refl))
    ∙ sym (ap (λ (r : AdminCommand). names r q c && told_of (stirs (sq_named r)) (mark_if out mark) completion) (other_reply out completion (f refl)))
says_case false command out mark noted stirs completion q c f = refl

true_false : {A : Type 0} (b : Bool) → b ≡ true → b ≡ false → A
true_false true h g = cc
true_false false h g = cc

not_admin : (sq cid : ℕ) (completion : Completion) → not_of sq cid completion → ((sq == 0) && (cid == completion.cid)) ≡ true → (completion.sq == 0) ≡ false
not_admin sq cid completion h own = go (completion.sq == 0) refl
  where
    go : (b : Bool) → (completion.sq == 0) ≡ b → b ≡ false
    go true e =
        let u = both (sq == 0) (cid == completion.cid) own in
        true_false ((sq == completion.sq) && (cid == completion.cid)) (join _ _ (eq-eqb sq completion.sq (eqb-true sq 0 u.0 ∙ sym (eqb-true completion.sq 0 e))) u.1) h
    go false e = refl

not_named : (sq cid : ℕ) (completion : Completion) → not_of sq cid completion → ((completion.sq == sq) && (completion.cid == cid)) ≡ false
not_named sq cid completion h = go ((completion.sq == sq) && (completion.cid == cid)) refl
  where
    go : (b : Bool) → ((completion.sq == sq) && (completion.cid == cid)) ≡ b → b ≡ false
    go true e =
        let u = both (completion.sq == sq) (completion.cid == cid) e in
        true_false ((sq == completion.sq) && (cid == completion.cid)) (join _ _ (eq-eqb sq completion.sq (sym (eqb-true completion.sq sq u.0))) (eq-eqb cid completion.cid (sym (eqb-true completion.cid cid u.1)))) h
    go false e = refl

asked_case : (own turned named : Bool) (command : AdminCommand) (out : Option AdminCommand) → (own ≡ true → turned ≡ false) → (own ≡ true → named ≡ false)
    → (if turned then None else (if named then None else (if own then Some command else out))) ≡ (if own then Some command else (if turned then None else (if named then None else out)))
asked_case true true named command out f g = let t : true ≡ false = f refl in cc
asked_case true false true command out f g = let t : true ≡ false = g refl in cc
asked_case true false false command out f g = refl
asked_case false turned named command out f g = refl

number_case : (own turned : Bool) (n m : ℕ) → (own ≡ true → turned ≡ false) → (if own then n else m) ≡ (if own then (if turned then 0 else n) else m)
number_case true true n m f = let t : true ≡ false = f refl in cc
number_case true false n m f = refl
number_case false turned n m f = refl

fetched_case : (same turned : Bool) (n : ℕ) → (same ≡ true → turned ≡ false) → (if turned then 0 else (if same then n + 1 else n)) ≡ (if same then (if turned then 0 else n) + 1 else (if turned then 0 else n))
fetched_case true true n f = let t : true ≡ false = f refl in cc
fetched_case true false n f = refl
fetched_case false true n f = refl
fetched_case false false n f = refl

-- fewer were answered before a completion
fewer : (b : Bool) (n a : ℕ) → nat_lt (if b then n + 1 else n) a ≡ true → nat_lt n a ≡ true
fewer true n a h = lt-ltb n a (omega (arith, ltb-true (n + 1) a h))
fewer false n a h = h

meets_before : (past : Past) (cq : ℕ) (slot : Option ℕ) (completion : Completion) (command : AdminCommand) → meets (Post cq slot completion ∷ past) command ≡ true → meets past command ≡ true
meets_before past cq slot completion (DeleteSq qid) h = fewer (turns_sq (answered past completion) qid) (sq_replies past qid) (sq_asks past qid) h
meets_before past cq slot completion (CreateSq qid qsize prp1 cqid qprio pc) h = fewer (turns_sq (answered past completion) qid) (sq_replies past qid) (sq_asks past qid) h
meets_before past cq slot completion (DeleteCq qid) h = fewer (turns_cq (answered past completion) qid) (cq_replies past qid) (cq_asks past qid) h
meets_before past cq slot completion (CreateCq qid qsize prp1 pc) h = fewer (turns_cq (answered past completion) qid) (cq_replies past qid) (cq_asks past qid) h
meets_before past cq slot completion (Abort sqid cid) h = h
meets_before past cq slot completion (SetFeatures fid sv cdw11) h = h
meets_before past cq slot completion (GetFeatures fid) h = h
meets_before past cq slot completion Other h = h

more_stirred : (turned hits : Bool) (n : ℕ) → n ≤ (if turned then (if hits then n + 1 else n) + 1 else (if hits then n + 1 else n))
more_stirred true true n = omega arith
more_stirred true false n = omega arith
more_stirred false true n = omega arith
more_stirred false false n = omega arith

one_if_more : (a b : Bool) → (if b then 1 else 0) ≤ (if a || b then 1 else 0)
one_if_more true true = omega arith
one_if_more true false = omega arith
one_if_more false true = omega arith
one_if_more false false = omega arith

mark_before : (past : Past) (cq : ℕ) (slot : Option ℕ) (completion : Completion) (command : AdminCommand) → mark_for past command ≤ mark_for (Post cq slot completion ∷ past) command
mark_before past cq slot completion (DeleteSq qid) = omega arith
mark_before past cq slot completion (CreateSq qid qsize prp1 cqid qprio pc) = one_more (turns_cq (answered past completion) cqid) (cq_replies past cqid)
mark_before past cq slot completion (DeleteCq qid) = one_more (is_of_sqs (answered past completion)) (sqs_replies past)
mark_before past cq slot completion (CreateCq qid qsize prp1 pc) = omega arith
mark_before past cq slot completion (Abort sqid cid) = more_stirred (turns_sq (done past completion) sqid) ((completion.sq == sqid) && is_aborted completion.status) (stirred past sqid)
mark_before past cq slot completion (SetFeatures fid sv cdw11) = one_if_more (creates (done past completion)) (was_created past)
mark_before past cq slot completion (GetFeatures fid) = omega arith
mark_before past cq slot completion Other = omega arith

if_least : (own : Bool) (a b c : ℕ) → a ≤ b → (if own then a else c) ≤ (if own then b else c)
if_least true a b c f = f
if_least false a b c f = omega arith

named_case : (first own a b c : Bool) → (a ≡ true → b ≡ true) → (first || (if own then a else c)) ≡ true → (first || (if own then b else c)) ≡ true
named_case true own a b c f h = refl
named_case false true a b c f h = f h
named_case false false a b c f h = h

met_case : (a b c : Bool) → (a ≡ true → b ≡ true) → (a || c) ≡ true → (b || c) ≡ true
met_case true b c f h = rw (f refl) refl
met_case false b c f h = second b c h

-- ---- an Abort that names a command which isn't there
names_queue : (command : AdminCommand) (q c : ℕ) → names command q c ≡ true → (sq_named command ≡ q) × (cid_named command ≡ c)
names_queue (DeleteSq qid) q c h = cc
names_queue (CreateSq qid qsize prp1 cqid qprio pc) q c h = cc
names_queue (DeleteCq qid) q c h = cc
names_queue (CreateCq qid qsize prp1 pc) q c h = cc
names_queue (Abort sqid cid) q c h = let u = both (sqid == q) (cid == c) h in (eqb-true sqid q u.0, eqb-true cid c u.1)
names_queue (SetFeatures fid sv cdw11) q c h = cc
names_queue (GetFeatures fid) q c h = cc
names_queue Other q c h = cc

names_admin : (out : Option AdminCommand) (completion : Completion) (q c : ℕ) → names (answered_by out completion) q c ≡ true → (completion.sq ≡ 0) × (is_some out ≡ true)
names_admin None completion q c h = cc
names_admin (Some command) completion q c h = (go (completion.sq == 0) refl h, refl)
  where
    go : (b : Bool) → (completion.sq == 0) ≡ b → names (if b then command else Other) q c ≡ true → completion.sq ≡ 0
    go true e k = eqb-true completion.sq 0 e
    go false e k = cc

-- it says that it aborted it only where nothing of that queue is judged any more
aborts_nobody : (start : Start) (past : Past) (cq : ℕ) (slot : Option ℕ) (completion : Completion) (q c : ℕ) → IsFaultlessLog start past → verdict start past (Post cq slot completion) ≡ Kept
    → names (answered past completion) q c ≡ true → told_of (stirred past (sq_named (answered past completion))) (mark_if (asked past 0 completion.cid) (mark_of past 0 completion.cid)) completion ≡ true
    → is_none (asked past q c) ≡ true → (not start.tells.posts && was_deleted past q) ≡ true
aborts_nobody start past cq slot completion q c log h named told gone =
    go (not start.tells.posts && was_deleted past q) (not start.tells.posts && was_deleted past completion.sq) refl refl
    (subst (λ (k : ℕ). names (answered_by (asked past k completion.cid) completion) q c ≡ true) (sym (names_admin (asked past 0 completion.cid) completion q c named).0) named)
    (subst (λ (k : ℕ). told_of (stirred past (sq_named (answered_by (asked past k completion.cid) completion))) (mark_if (asked past k completion.cid) (mark_of past k completion.cid)) completion ≡ true) (sym (names_admin (asked past 0 completion.cid) completion q c named).0) told)
  where
    go : (unjudged skipped : Bool) → (not start.tells.posts && was_deleted past q) ≡ unjudged → (not start.tells.posts && was_deleted past completion.sq) ≡ skipped
        → names (answered_by (asked past completion.sq completion.cid) completion) q c ≡ true
        → told_of (stirred past (sq_named (answered_by (asked past completion.sq completion.cid) completion))) (mark_if (asked past completion.sq completion.cid) (mark_of past completion.sq completion.cid)) completion ≡ true
        → unjudged ≡ true
    go true skipped e d n t = refl
    go false true e d n t =
        let zero_is : completion.sq ≡ 0 = (names_admin (asked past completion.sq completion.cid) completion q c n).0 in
        let closed : (ring_of start past 0 ≡ None) × ((j : ℕ) → asked past 0 j ≡ None) = admin_closed start past log (ap (was_deleted past) (sym zero_is) ∙ (both (not start.tells.posts) (was_deleted past completion.sq) d).1) in
        let some : is_some (asked past 0 completion.cid) ≡ true = (names_admin (asked past 0 completion.cid) completion q c named).1 in
        let z : false ≡ true = sym (ap (λ (o : Option AdminCommand). is_some o) (closed.1 completion.cid)) ∙ some in cc
    go false false e d n t =
        let s : ℕ = completion.sq in
        let j : ℕ = completion.cid in
        let reply : AdminCommand = answered_by (asked past s j) completion in
        let is : answered_in (outstanding past s j) completion ≡ reply = reply_is (asked past s j) (number_of past s j) (mark_of past s j) (was_named past s j) (owes past s j) completion in
        let posted_there : IsPostedAt start past cq slot completion reply = subst (λ (r : AdminCommand). IsPostedAt start past cq slot completion r) is (posted_at start past cq slot completion log h) in
        let at : (sq_named reply ≡ q) × (cid_named reply ≡ c) = names_queue reply q c n in
        let nobody : is_none (outstanding past (sq_named reply) (cid_named reply)) ≡ true =
        none_is (asked past (sq_named reply) (cid_named reply)) (number_of past (sq_named reply) (cid_named reply)) (mark_of past (sq_named reply) (cid_named reply)) (was_named past (sq_named reply) (cid_named reply)) (owes past (sq_named reply) (cid_named reply))
        ∙ ap (λ (k : ℕ). is_none (asked past k (cid_named reply))) at.0 ∙ ap (λ (k : ℕ). is_none (asked past q k)) at.1 ∙ gone in
        let untrue : is_untrue_abort start.tells (sq_after start past (sq_named reply)) (outstanding past (sq_named reply) (cid_named reply)) (mark_in (outstanding past s j)) completion (answered_in (outstanding past s j) completion) ≡ true =
        rw (is, mark_is (asked past s j) (number_of past s j) (mark_of past s j) (was_named past s j) (owes past s j))
        (join _ _ (join _ _ (join _ _ (names_abort reply q c n) nobody) t)
        (neither (is_sq_excused start past (sq_named reply)) _ (none_excused start past log (sq_named reply)).0 (ap (λ (k : ℕ). not start.tells.posts && was_deleted past k) at.0 ∙ e))) in
        let z : true ≡ false = sym untrue ∙ (posted_there.answered d).abort in cc

owed_case : (own says owed : Bool) (U : Type 0) → (own ≡ true → says ≡ true → U) → (says || (if own then false else owed)) ≡ true → ((if own then false else (says || owed)) ≡ true) ⊎ U
owed_case true true owed U f h = inr (f refl refl)
owed_case true false owed U f h = cc
owed_case false says owed U f h = inl h

-- a Create that was fetched before a completion may have taken effect before it
early_later : (ends own closed turns : Bool) (replies asks : ℕ) (early : Bool) → (not ends && ((own && (closed && nat_lt replies asks)) || early)) ≡ true → (not ends && ((own && (closed && nat_lt replies (if turns then asks + 1 else asks))) || early)) ≡ true
early_later true own closed turns replies asks early h = cc
early_later false false closed turns replies asks early h = h
early_later false true false turns replies asks early h = h
early_later false true true false replies asks early h = h
early_later false true true true replies asks true h = second (nat_lt replies (asks + 1)) true refl
early_later false true true true replies asks false h = rw (lt-ltb replies (asks + 1) (omega (arith, ltb-true replies asks (no_other (nat_lt replies asks) h)))) refl
  where
    no_other : (a : Bool) → (a || false) ≡ true → a ≡ true
    no_other true k = refl
    no_other false k = cc

seen_over_fetch : (start : Start) (past : Past) (cq : ℕ) (slot : Option ℕ) (completion : Completion) (sq cid : ℕ) (of : Option ℕ) (command : AdminCommand) → turns_sq (done past completion) sq ≡ false → not_of sq cid completion
    → IsFaultlessLog start past → verdict start past (Post cq slot completion) ≡ Kept → is_none (asked past sq cid) ≡ true
    → IsSeen start start (Fetch sq of cid command ∷ Post cq slot completion ∷ past) (Post cq slot completion ∷ Fetch sq of cid command ∷ past)
seen_over_fetch start past cq slot completion sq cid of command h free log kept gone =
    let own : Bool = (sq == 0) && (cid == completion.cid) in
    let ends : done (Fetch sq of cid command ∷ past) completion ≡ done past completion = end_case own command (asked past 0 completion.cid) completion (not_admin sq cid completion free) in
    let reply : answered (Fetch sq of cid command ∷ past) completion ≡ answered past completion = reply_case own command (asked past 0 completion.cid) completion (not_admin sq cid completion free) in
    let stays : (q : ℕ) → (sq == q) ≡ true → turns_sq (done past completion) q ≡ false = λ q e. ap (turns_sq (done past completion)) (sym (eqb-true sq q e)) ∙ h in
    record {
      asked_is = λ q c. rw ends (asked_case ((sq == q) && (cid == c)) (turns_sq (done past completion) q) ((completion.sq == q) && (completion.cid == c)) command (asked past q c)
          (λ e. stays q (both (sq == q) (cid == c) e).0)
          (λ e. let u = both (sq == q) (cid == c) e in
          ap (λ (k : ℕ). (completion.sq == k) && (completion.cid == c)) (sym (eqb-true sq q u.0)) ∙ ap (λ (k : ℕ). (completion.sq == sq) && (completion.cid == k)) (sym (eqb-true cid c u.1)) ∙ not_named sq cid completion free));
      number_is = λ q c. number_case ((sq == q) && (cid == c)) (turns_sq (done past completion) q) (fetched past q) (number_of past q c) (λ e. stays q (both (sq == q) (cid == c) e).0);
      sq_is = λ q. rw (ends, reply) (ap (λ (n : ℕ). record (sq_known start (Fetch sq of cid command ∷ Post cq slot completion ∷ past) q) { fetched = n }) (fetched_case (sq == q) (turns_sq (done past completion) q) (fetched past q) (stays q)));
      cq_is = λ q. rw (ends, reply, ended_where start past (Fetch sq of cid command ∷ past) (done past completion) (λ k. refl)) refl;
      admin_is = rw (ends, reply) refl;
      submitted_is = λ e q. rw ends refl;
      submitted_le = λ q. rw ends (omega arith);
      consumed_is = λ e q. rw ends refl;
      consumed_le = λ q. rw ends (omega arith);
      numbers_are = inr (rw ends refl);
      early = λ q k. rw ends (early_later (deletes_cq (done past completion) q) (cq == q) (is_none (qsize_of start past q)) (turns_cq (asking sq command) q) (cq_replies past q) (cq_asks past q) (is_early start past q) k);
      met = met_case (meets (Post cq slot completion ∷ past) (asking sq command)) (meets past (asking sq command)) (have_met past) (meets_before past cq slot completion (asking sq command));
      marked = λ q c. if_least ((sq == q) && (cid == c)) (mark_for past command) (mark_for (Post cq slot completion ∷ past) command) (mark_of past q c) (mark_before past cq slot completion command);
      named = λ q c. named_case (names (asking sq command) q c) ((sq == q) && (cid == c)) (nat_lt (aborts_answered (Post cq slot completion ∷ past)) (aborts_asked past)) (nat_lt (aborts_answered past) (aborts_asked past)) (was_named past q c)
          (fewer (is_abort (answered past completion)) (aborts_answered past) (aborts_asked past));
      owed = λ q c some owing.
          owed_case ((sq == q) && (cid == c)) (names (answered past completion) q c && told_of (stirred past (sq_named (answered past completion))) (mark_if (asked past 0 completion.cid) (mark_of past 0 completion.cid)) completion) (owes past q c) _
          (λ e says.
          let u = both (sq == q) (cid == c) e in
          let v = both (names (answered past completion) q c) (told_of (stirred past (sq_named (answered past completion))) (mark_if (asked past 0 completion.cid) (mark_of past 0 completion.cid)) completion) says in
          deleted_after start.tells.posts (deletes_sq (done (Fetch sq of cid command ∷ past) completion) q) (was_deleted past q)
          (aborts_nobody start past cq slot completion q c log kept v.0 v.1 (ap (λ (k : ℕ). is_none (asked past k c)) (sym (eqb-true sq q u.0)) ∙ ap (λ (k : ℕ). is_none (asked past sq k)) (sym (eqb-true cid c u.1)) ∙ gone)))
          (rw (says_case own command (asked past 0 completion.cid) (mark_of past 0 completion.cid) (mark_for past command) (stirred past) completion q c (not_admin sq cid completion free)) at owing);
    }

not_out : (turned named : Bool) (out : Option AdminCommand) → turned ≡ false → named ≡ false → is_some (if turned then None else (if named then None else out)) ≡ is_some out
not_out true named out f g = cc
not_out false true out f g = cc
not_out false false out f g = refl

none_if : {A : Type 0} (out : Option A) → is_some out ≡ false → is_none out ≡ true
none_if None h = refl
none_if (Some a) h = cc

swap_fetch : (start : Start) (past : Past) (cq : ℕ) (slot : Option ℕ) (completion : Completion) (sq cid : ℕ) (of : Option ℕ) (command : AdminCommand) → turns_sq (done past completion) sq ≡ false → not_of sq cid completion
    → IsFaultlessLog start (Fetch sq of cid command ∷ Post cq slot completion ∷ past) → IsSwapped start (Fetch sq of cid command ∷ Post cq slot completion ∷ past) (Post cq slot completion ∷ Fetch sq of cid command ∷ past)
swap_fetch start past cq slot completion sq cid of command h free log =
    let then_past : Past = Post cq slot completion ∷ past in
    let rules : fetch_rules start.tells (sq_after start then_past sq) (ring_of start then_past sq) of (is_some (outstanding then_past sq cid)) ≡ Kept =
    not_excused (is_sq_excused start then_past sq) _ (none_excused start then_past log.1 sq).0 (is_ruled start then_past (Fetch sq of cid command) log.1 log.0) in
    let out : is_some (asked then_past sq cid) ≡ is_some (asked past sq cid) = not_out (turns_sq (done past completion) sq) ((completion.sq == sq) && (completion.cid == cid)) (asked past sq cid) h (not_named sq cid completion free) in
    let same : is_some (outstanding then_past sq cid) ≡ is_some (outstanding past sq cid) =
    same_out (asked then_past sq cid) (number_of past sq cid) (mark_of past sq cid) (was_named past sq cid) (owes then_past sq cid) ∙ out ∙ sym (same_out (asked past sq cid) (number_of past sq cid) (mark_of past sq cid) (was_named past sq cid) (owes past sq cid)) in
    let here : fetch_rules start.tells (sq_after start then_past sq) (ring_of start past sq) of (is_some (outstanding past sq cid)) ≡ Kept =
    ap (λ (r : Option Ring). fetch_rules start.tells (sq_after start then_past sq) r of (is_some (outstanding past sq cid))) (sym (ring_stays (done past completion) sq (ring_of start past sq) h))
    ∙ ap (λ (b : Bool). fetch_rules start.tells (sq_after start then_past sq) (ring_of start then_past sq) of b) (sym same) ∙ rules in
    let earlier : IsFaultlessLog start (Fetch sq of cid command ∷ past) = (
      unless_excused (is_lost past) _ (unless_excused (is_sq_excused start past sq) _
          (fetch_still start.tells start.tells (sq_after start then_past sq) (sq_after start past sq) (ring_of start past sq) of of (is_some (outstanding past sq cid)) (λ e. (e, rw h (omega arith))) (rw h refl) (inr refl) here)),
      log.1.1,
    ) in
    let nobody : is_none (asked past sq cid) ≡ true = none_if (asked past sq cid) (sym out ∙ sym (same_out (asked then_past sq cid) (number_of past sq cid) (mark_of past sq cid) (was_named past sq cid) (owes then_past sq cid)) ∙ rules_free start.tells (sq_after start then_past sq) (ring_of start then_past sq) of (is_some (outstanding then_past sq cid)) rules) in (
      seen_over_fetch start past cq slot completion sq cid of command h free log.1.1 log.1.0 nobody,
      (post_after start past (Fetch sq of cid command ∷ past) cq slot completion (after_fetch start past sq cid of command cq completion.sq completion.cid _ free) log.1.1 earlier log.1.0, earlier),
    )

-- ---- over a completion of another queue
-- what a completion of an I/O queue leaves of what another reads
after_post : (start : Start) (past : Past) (queue : ℕ) (place : Option ℕ) (other : Completion) (cq q c : ℕ) (aborts : Bool) → (other.sq == 0) ≡ false → (queue == cq) ≡ false → ((other.sq == q) && (other.cid == c)) ≡ false → aborts ≡ false
    → IsAfter start past (Post queue place other ∷ past) cq q c aborts
after_post start past queue place other cq q c aborts io elsewhere free no_abort =
    let ends : done past other ≡ Other = other_end (asked past 0 other.cid) other io in
    let reply : answered past other ≡ Other = other_reply (asked past 0 other.cid) other io in
    record {
      out_is = rw (ends, free) refl;
      number_is = refl;
      mark_is = refl;
      owes_is = rw reply refl;
      named = λ k. k;
      gone = λ a k j g. true_false aborts a no_abort;
      ring_is = λ k. rw ends refl;
      deleted_is = λ k. rw ends refl;
      stirred_is = λ a k. true_false aborts a no_abort;
      fetched = λ k. rw ends (omega arith);
      doomed = λ k d. d;
      qsize_is = λ k. rw ends refl;
      posted_is = rw (ends, elsewhere) refl;
      consumed = rw ends (omega arith);
      answered = rw reply (omega arith);
      early = λ k. rw (ends, elsewhere) k;
      joined_is = λ k. rw ends refl;
      parted_is = λ k. rw ends refl;
      cq_asked = λ k. omega arith;
      sqs_asked = omega arith;
      met = λ k. k;
      numbers_are = rw ends refl;
    }

-- and before it
before_post : (start : Start) (past : Past) (queue : ℕ) (place : Option ℕ) (other : Completion) (cq q c : ℕ) (aborts : Bool) → (other.sq == 0) ≡ false → (queue == cq) ≡ false → ((other.sq == q) && (other.cid == c)) ≡ false → aborts ≡ false
    → IsAfter start (Post queue place other ∷ past) past cq q c aborts
before_post start past queue place other cq q c aborts io elsewhere free no_abort =
    let ends : done past other ≡ Other = other_end (asked past 0 other.cid) other io in
    let reply : answered past other ≡ Other = other_reply (asked past 0 other.cid) other io in
    record {
      out_is = rw (ends, free) refl;
      number_is = refl;
      mark_is = refl;
      owes_is = rw reply refl;
      named = λ k. k;
      gone = λ a k j g. true_false aborts a no_abort;
      ring_is = λ k. rw ends refl;
      deleted_is = λ k. rw ends refl;
      stirred_is = λ a k. true_false aborts a no_abort;
      fetched = λ k. rw ends (omega arith);
      doomed = λ k d. d;
      qsize_is = λ k. rw ends refl;
      posted_is = rw (ends, elsewhere) refl;
      consumed = rw ends (omega arith);
      answered = rw reply (omega arith);
      early = λ k. rw (ends, elsewhere) at k;
      joined_is = λ k. rw ends refl;
      parted_is = λ k. rw ends refl;
      cq_asked = λ k. omega arith;
      sqs_asked = omega arith;
      met = λ k. k;
      numbers_are = rw ends refl;
    }

both_none : (a b : Bool) (out : Option AdminCommand) → (if a then None else (if b then None else out)) ≡ (if b then None else (if a then None else out))
both_none true true out = refl
both_none true false out = refl
both_none false true out = refl
both_none false false out = refl

both_more : (a b : Bool) (n : ℕ) → (if a then (if b then n + 1 else n) + 1 else (if b then n + 1 else n)) ≡ (if b then (if a then n + 1 else n) + 1 else (if a then n + 1 else n))
both_more true true n = refl
both_more true false n = refl
both_more false true n = refl
both_more false false n = refl

early_swapped : (a b room early : Bool) → ((a && room) || ((b && room) || early)) ≡ true → ((b && room) || ((a && room) || early)) ≡ true
early_swapped true true room early h = h
early_swapped true false true early h = refl
early_swapped true false false early h = h
early_swapped false true true early h = refl
early_swapped false true false early h = h
early_swapped false false room early h = h

seen_over_post : (start : Start) (past : Past) (cq queue : ℕ) (slot place : Option ℕ) (completion other : Completion) → (completion.sq == 0) ≡ false → (other.sq == 0) ≡ false
    → IsSeen start start (Post queue place other ∷ Post cq slot completion ∷ past) (Post cq slot completion ∷ Post queue place other ∷ past)
seen_over_post start past cq queue slot place completion other io also =
    let e : done past completion ≡ Other = other_end (asked past 0 completion.cid) completion io in
    let f : done (Post queue place other ∷ past) completion ≡ Other = other_end (asked (Post queue place other ∷ past) 0 completion.cid) completion io in
    let g : done past other ≡ Other = other_end (asked past 0 other.cid) other also in
    let h : done (Post cq slot completion ∷ past) other ≡ Other = other_end (asked (Post cq slot completion ∷ past) 0 other.cid) other also in
    let i : answered past completion ≡ Other = other_reply (asked past 0 completion.cid) completion io in
    let j : answered (Post queue place other ∷ past) completion ≡ Other = other_reply (asked (Post queue place other ∷ past) 0 completion.cid) completion io in
    let k : answered past other ≡ Other = other_reply (asked past 0 other.cid) other also in
    let l : answered (Post cq slot completion ∷ past) other ≡ Other = other_reply (asked (Post cq slot completion ∷ past) 0 other.cid) other also in
    record {
      asked_is = λ q c. rw (f, h, e, g) (both_none ((completion.sq == q) && (completion.cid == c)) ((other.sq == q) && (other.cid == c)) (asked past q c));
      number_is = λ q c. refl;
      sq_is = λ q. rw (f, h, j, l, e, g, i, k) (ap (λ (n : ℕ). record (sq_known start past q) { stirred = n }) (both_more ((completion.sq == q) && is_aborted completion.status) ((other.sq == q) && is_aborted other.status) (stirred past q)));
      cq_is = λ q. rw (f, h, j, l, e, g, i, k) (ap (λ (n : ℕ). record (cq_known start past q) { posted = n }) (both_more (cq == q) (queue == q) (posted past q)));
      admin_is = rw (f, h, j, l, e, g, i, k) refl;
      submitted_is = λ t q. rw (f, h, e, g) refl;
      submitted_le = λ q. rw (f, h, e, g) (omega arith);
      consumed_is = λ t q. rw (f, h, e, g) refl;
      consumed_le = λ q. rw (f, h, e, g) (omega arith);
      numbers_are = inr (rw (f, h, e, g) refl);
      early = λ q t. rw (f, g, k) (early_swapped (queue == q) (cq == q) (may_be_open start past q) (is_early start past q) (rw (h, e, i) at t));
      met = λ t. t;
      marked = λ q c. omega arith;
      named = λ q c t. t;
      owed = λ q c some owing. inl (rw (l, i) (rw (j, k) at owing));
    }

other_way : (a b : ℕ) → (b == a) ≡ false → (a == b) ≡ false
other_way a b h = go (a == b) refl
  where
    go : (t : Bool) → (a == b) ≡ t → t ≡ false
    go true e = true_false (b == a) (eq-eqb b a (sym (eqb-true a b e))) h
    go false e = refl

swap_post : (start : Start) (past : Past) (cq queue : ℕ) (slot place : Option ℕ) (completion other : Completion) → (cq == queue) ≡ false → (completion.sq == 0) ≡ false → (other.sq == 0) ≡ false → not_of other.sq other.cid completion
    → IsFaultlessLog start (Post queue place other ∷ Post cq slot completion ∷ past) → IsSwapped start (Post queue place other ∷ Post cq slot completion ∷ past) (Post cq slot completion ∷ Post queue place other ∷ past)
swap_post start past cq queue slot place completion other apart io also free log =
    let elsewhere : (queue == cq) ≡ false = other_way queue cq apart in
    let earlier : IsFaultlessLog start (Post queue place other ∷ past) = (
      post_after start (Post cq slot completion ∷ past) past queue place other
          (before_post start past cq slot completion queue other.sq other.cid (is_abort (answered_by (asked (Post cq slot completion ∷ past) other.sq other.cid) other)) io apart (not_named other.sq other.cid completion free)
          (ap is_abort (other_reply (asked (Post cq slot completion ∷ past) other.sq other.cid) other also)))
          log.1 log.1.1 log.0,
      log.1.1,
    ) in (
      seen_over_post start past cq queue slot place completion other io also,
      (
        post_after start past (Post queue place other ∷ past) cq slot completion
            (after_post start past queue place other cq completion.sq completion.cid (is_abort (answered_by (asked past completion.sq completion.cid) completion)) also elsewhere free
            (ap is_abort (other_reply (asked past completion.sq completion.cid) completion io)))
            log.1.1 earlier log.1.0,
        earlier,
      ),
    )

-- ---- the events after
all_told : (start : Start) → TellsLess start.tells start.tells
all_told start = record { tails = λ e. e; heads = λ e. e; posts = λ e. e }

after_swap : (start : Start) (past late : Past) (event : Event) → IsSwapped start past late → IsFaultlessLog start (event ∷ past) → IsSwapped start (event ∷ past) (event ∷ late)
after_swap start past late (Tail sq to) s log =
    let rules = not_excused (is_sq_excused start past sq) _ (none_excused start past log.1 sq).0 (is_ruled start past (Tail sq to) log.1 log.0) in
    (seen_tail start start past late sq to (tail_fits (qsize_in (ring_of start past sq)) (submitted start past sq) (fetched past sq) to rules) s.0, (tail_seen start start past late sq to s.0 rules, s.1))
after_swap start past late (Head cq to) s log =
    let rules = not_excused (is_cq_excused start past cq) _ (none_excused start past log.1 cq).1 (is_ruled start past (Head cq to) log.1 log.0) in
    (seen_head start start past late cq to (head_fits (qsize_of start past cq) (is_early start past cq) (posted past cq) (consumed start past cq) to rules) s.0, (head_seen start start past late cq to s.0 rules, s.1))
after_swap start past late (Fetch sq of cid command) s log =
    let rules = not_excused (is_sq_excused start past sq) _ (none_excused start past log.1 sq).0 (is_ruled start past (Fetch sq of cid command) log.1 log.0) in
    (seen_fetch start start past late sq cid of of command s.0, (fetch_seen start start past late sq cid of of command (all_told start) (inr refl) s.0 rules, s.1))
after_swap start past late (Post cq slot completion) s log = (
  seen_post start start past late cq slot slot completion completion.sqhd completion.dw0 completion.phase (numbers_kept start past cq slot completion log.1 log.0) (inr refl) s.0,
  (post_seen start start past late cq slot slot completion completion.sqhd completion.dw0 completion.phase (all_told start) (inr refl) (inr refl) (inr refl) (inr refl) s.0 log.1 s.1 log.0, s.1),
)

swapped : (start : Start) (past late : Past) → ReadsLater start past late → IsFaultlessLog start past → IsSwapped start past late
swapped start _ _ (over_tail {past = past} {cq = cq} {slot = slot} {completion = completion} {sq = sq} {to = to} h) log = swap_tail start past cq slot completion sq to h log
swapped start _ _ (over_head {past = past} {cq = cq} {slot = slot} {completion = completion} {queue = queue} {to = to} h released) log = swap_head start past cq slot completion queue to h released log
swapped start _ _ (over_fetch {past = past} {cq = cq} {slot = slot} {completion = completion} {sq = sq} {cid = cid} {of = of} {command = command} h free) log = swap_fetch start past cq slot completion sq cid of command h free log
swapped start _ _ (over_post {past = past} {cq = cq} {queue = queue} {slot = slot} {place = place} {completion = completion} {other = other} apart io also free) log = swap_post start past cq queue slot place completion other apart io also free log
swapped start _ _ (before {past = past} {late = late} {event = event} reads) log = after_swap start past late event (swapped start past late reads log.1) log

late_log : (start : Start) (past late : Past) → ReadsLate start past late → IsFaultlessLog start past → IsFaultlessLog start late
late_log start _ _ none log = log
late_log start _ _ (more {past = past} {mid = mid} {late = late} first rest) log = late_log start mid late rest (swapped start past mid first log).1

pub late_is_faultless : LateIsFaultless
late_is_faultless start past late reads log = late_log start past late reads log

-- ---- what observers see
lawful : (start : Start) (past : Past) → IsFaultlessLog start past → IsLawfulLog start past
lawful start [] log = tt
lawful start (event ∷ past) log = (ap is_broken log.0, lawful start past log.1)

pub projections : ProjectionsAreLawful
projections start tells past late shown less reads shows log =
    let seen : IsFaultlessLog (seen_by start tells) shown = less_is_faultless start tells late shown less shows (late_log start past late reads log) in
    (seen, lawful (seen_by start tells) shown seen)
