-- An observer who sees less says nothing where nothing is said by the whole log.
use Rattle.std.proofs.Common.{◌≡◌, inl, inr, ℕ, ◌≤◌, ◌&&◌, not, Bool, true, false, Option, is_some, is_none, refl, sym, subst, ap, ◌∙◌, arith}
use Rattle.nvme_entry.specs.declared.admin.AdminCommand.{AdminCommand}
use Rattle.nvme_audit.specs.declared.event.Event.TheVariants.{Tail, Head, Fetch, Post}
use Rattle.nvme_audit.specs.declared.event.Completion.{Completion}
use Rattle.nvme_audit.specs.declared.facts.Start.{Start}
use Rattle.nvme_audit.specs.declared.facts.Tells.{Tells}
use Rattle.nvme_audit.specs.declared.facts.Sq.{Sq}
use Rattle.nvme_audit.specs.declared.facts.Cq.{Cq}
use Rattle.nvme_audit.specs.declared.facts.Admin.{Admin}
use Rattle.nvme_audit.specs.declared.verdict.Verdict.TheVariants.{Kept}
use Rattle.nvme_audit.specs.Lives.{Past, asked}
use Rattle.nvme_audit.specs.Queues.{ring_of, qsize_of, was_deleted}
use Rattle.nvme_audit.specs.Rings.{advanced, qsize_in, submitted, fetched, posted, consumed, number_of}
use Rattle.nvme_audit.specs.Turns.{answered_by, sq_named, cq_named, cid_named}
use Rattle.nvme_audit.specs.Aborts.{was_named}
use Rattle.nvme_audit.specs.Marks.{mark_of, owes}
use Rattle.nvme_audit.specs.Early.{is_early}
use Rattle.nvme_audit.specs.Host.{tail_rules, head_rules, is_lost, is_sq_excused, is_cq_excused}
use Rattle.nvme_audit.specs.Facts.{sq_after, cq_after, admin_after, outstanding}
use Rattle.nvme_audit.specs.Rules.{fetch_rules}
use Rattle.nvme_audit.specs.Answers.{answered_in}
use Rattle.nvme_audit.specs.Lawful.{verdict, IsFaultlessLog}
use Rattle.nvme_audit.specs.Shows.{TellsLess, IsShown, with_fields, seen_by, ShowsLess, none, tail, head, tail_left_out, head_left_out, fetch, post, LessIsFaultless}
use Rattle.nvme_audit.proofs.StepLemmas.{same_out}
use Rattle.nvme_audit.proofs.OnceLemmas.{none_excused, is_ruled}
use Rattle.nvme_audit.proofs.HeadLemmas.{next_of}
use Rattle.nvme_audit.proofs.KeptLemmas.{not_excused, unless_excused, both, join, not_still, tail_still, tail_fits, head_still, head_fits, fetch_still, reply_is, none_is, IsPostedAt, posted_at, kept_at, numbers_kept, possible}
use Rattle.nvme_audit.proofs.MilderLemmas.{reply_seen, posted_still}
use Rattle.nvme_audit.proofs.SeenLemmas.{IsSeen, seen_tail, seen_head, seen_without_tail, seen_without_head, seen_fetch, seen_post, says_known}

-- ---- what is said of an event that is shown
advanced_least : (n near far slot : ℕ) → slot ≤ n → near ≤ far → advanced n near slot ≤ advanced n far slot
advanced_least n near far slot fits h = (next_of n near slot fits).1 (advanced n far slot) (omega (arith, h)) (next_of n far slot fits).0

pub tail_seen : (start now : Start) (past less : Past) (sq slot : ℕ) → IsSeen start now past less → tail_rules (qsize_in (ring_of start past sq)) (submitted start past sq) (fetched past sq) slot ≡ Kept
    → verdict now less (Tail sq slot) ≡ Kept
tail_seen start now past less sq slot s h =
    unless_excused (is_lost less) _ (unless_excused (is_sq_excused now less sq) _
    (rw (ap (λ (k : Sq). k.ring) (s.sq_is sq), ap (λ (k : Sq). k.fetched) (s.sq_is sq))
    (tail_still (qsize_in (ring_of start past sq)) (submitted start past sq) (submitted now less sq) (fetched past sq) slot (λ n e fits. advanced_least n _ _ slot fits (s.submitted_le sq)) h)))

pub head_seen : (start now : Start) (past less : Past) (cq slot : ℕ) → IsSeen start now past less → head_rules (qsize_of start past cq) (is_early start past cq) (posted past cq) (consumed start past cq) slot ≡ Kept
    → verdict now less (Head cq slot) ≡ Kept
head_seen start now past less cq slot s h =
    unless_excused (is_lost less) _ (unless_excused (is_cq_excused now less cq) _
    (rw (ap (λ (k : Cq). k.qsize) (s.cq_is cq), ap (λ (k : Cq). k.posted) (s.cq_is cq))
    (head_still (qsize_of start past cq) (is_early start past cq) (is_early now less cq) (posted past cq) (consumed start past cq) (consumed now less cq) slot (s.early cq) (λ n e fits. advanced_least n _ _ slot fits (s.consumed_le cq)) h)))

pub fetch_seen : (start now : Start) (past less : Past) (sq cid : ℕ) (slot shown : Option ℕ) (command : AdminCommand) → TellsLess start.tells now.tells → IsShown slot shown → IsSeen start now past less
    → fetch_rules start.tells (sq_after start past sq) (ring_of start past sq) slot (is_some (outstanding past sq cid)) ≡ Kept → verdict now less (Fetch sq shown cid command) ≡ Kept
fetch_seen start now past less sq cid slot shown command t at s h =
    let out : is_some (outstanding less sq cid) ≡ is_some (outstanding past sq cid) =
    same_out (asked less sq cid) (number_of less sq cid) (mark_of less sq cid) (was_named less sq cid) (owes less sq cid)
    ∙ ap (λ (o : Option AdminCommand). is_some o) (s.asked_is sq cid)
    ∙ sym (same_out (asked past sq cid) (number_of past sq cid) (mark_of past sq cid) (was_named past sq cid) (owes past sq cid)) in
    unless_excused (is_lost less) _ (unless_excused (is_sq_excused now less sq) _
    (rw (ap (λ (k : Sq). k.ring) (s.sq_is sq), out)
    (fetch_still start.tells now.tells (sq_after start past sq) (sq_after now less sq) (ring_of start past sq) slot shown (is_some (outstanding past sq cid))
    (λ e. (t.tails e, omega (arith, s.submitted_is e sq))) (ap (λ (k : Sq). k.fetched) (s.sq_is sq)) at h)))

skipped : (start now : Start) (past less : Past) (q : ℕ) → TellsLess start.tells now.tells → IsSeen start now past less → (not start.tells.posts && was_deleted past q) ≡ true → (not now.tells.posts && was_deleted less q) ≡ true
skipped start now past less q t s h = let u = both (not start.tells.posts) (was_deleted past q) h in join _ _ (not_still start.tells.posts now.tells.posts t.posts u.0) (ap (λ (k : Sq). k.deleted) (s.sq_is q) ∙ u.1)

pub post_seen : (start now : Start) (past less : Past) (cq : ℕ) (slot shown : Option ℕ) (completion : Completion) (sqhd dw0 : Option ℕ) (phase : Option Bool) → TellsLess start.tells now.tells
    → IsShown slot shown → IsShown completion.sqhd sqhd → IsShown completion.phase phase → IsShown completion.dw0 dw0 → IsSeen start now past less
    → IsFaultlessLog start past → IsFaultlessLog now less → verdict start past (Post cq slot completion) ≡ Kept → verdict now less (Post cq shown (with_fields completion sqhd phase dw0)) ≡ Kept
post_seen start now past less cq slot shown completion sqhd dw0 phase t at_slot at_head at_phase at_dw0 s log seen h =
    let q : ℕ = completion.sq in
    let c : ℕ = completion.cid in
    let out : Option AdminCommand = asked past q c in
    let reply : AdminCommand = answered_by out completion in
    let is : answered_in (outstanding past q c) completion ≡ reply = reply_is out (number_of past q c) (mark_of past q c) (was_named past q c) (owes past q c) completion in
    let now_is : answered_in (outstanding less q c) (with_fields completion sqhd phase dw0) ≡ reply =
    reply_seen (asked less q c) (number_of less q c) (mark_of less q c) (was_named less q c) (owes less q c) completion sqhd dw0 phase ∙ ap (λ (o : Option AdminCommand). answered_by o completion) (s.asked_is q c) in
    kept_at now less cq shown (with_fields completion sqhd phase dw0) seen
    (subst (λ (r : AdminCommand). IsPostedAt now less cq shown (with_fields completion sqhd phase dw0) r) (sym now_is)
    (rw (s.asked_is q c, s.number_is q c) (
    posted_still start.tells now.tells cq (cq_after start past cq) (cq_after now less cq) (cq_after start past (cq_named reply)) (cq_after now less (cq_named reply)) (sq_after start past q) (sq_after now less q) (sq_after start past (sq_named reply)) (sq_after now less (sq_named reply)) (admin_after past) (admin_after less)
    out (number_of past q c) (mark_of past q c) (mark_of less q c) (was_named past q c) (was_named less q c) (owes past q c) (owes less q c) (outstanding past (sq_named reply) (cid_named reply)) (outstanding less (sq_named reply) (cid_named reply)) slot shown completion sqhd dw0 phase at_slot at_head at_phase at_dw0
    (record {
      consumed = λ e. (t.heads e, omega (arith, s.consumed_is e cq));
      posted_is = ap (λ (k : Cq). k.posted) (s.cq_is cq);
      qsize_is = ap (λ (k : Cq). k.qsize) (s.cq_is cq);
      posts = t.posts;
      answered = omega (arith, ap (λ (k : Cq). k.answered) (s.cq_is cq));
      asked = omega (arith, ap (λ (k : Cq). k.asked) (s.cq_is cq));
      early = s.early cq;
      skips = skipped start now past less q t s;
      skips_own = skipped start now past less (sq_named reply) t s;
      judged = (none_excused now less seen q).0;
      own_judged = (none_excused start past log (sq_named reply)).0;
      ring_is = λ k. ap (λ (k : Sq). k.ring) (s.sq_is q);
      fetched = λ k. omega (arith, ap (λ (k : Sq). k.fetched) (s.sq_is q));
      doomed = λ k. ap (λ (k : Sq). k.doomed) (s.sq_is q) ∙ k;
      named_is = s.named q c;
      marked = s.marked q c;
      owed_is = λ k some owing ended. elim (s.owed q c some owing) [
        | inl o ↦ o
        | inr unjudged ↦ let z : true ≡ false = sym unjudged ∙ k in cc
      ];
      says = λ k w a gone told. (
        none_is (asked past (sq_named reply) (cid_named reply)) (number_of past (sq_named reply) (cid_named reply)) (mark_of past (sq_named reply) (cid_named reply)) (was_named past (sq_named reply) (cid_named reply)) (owes past (sq_named reply) (cid_named reply))
            ∙ sym (ap (λ (o : Option AdminCommand). is_none o) (s.asked_is (sq_named reply) (cid_named reply)))
            ∙ sym (none_is (asked less (sq_named reply) (cid_named reply)) (number_of less (sq_named reply) (cid_named reply)) (mark_of less (sq_named reply) (cid_named reply)) (was_named less (sq_named reply) (cid_named reply)) (owes less (sq_named reply) (cid_named reply)))
            ∙ gone,
        says_known start now past less completion sqhd dw0 phase s at_dw0 q a told,
      );
      more = record {
        ring_is = ap (λ (k : Sq). k.ring) (s.sq_is (sq_named reply));
        qsize_is = ap (λ (k : Cq). k.qsize) (s.cq_is (cq_named reply));
        joined_is = ap (λ (k : Cq). k.joined) (s.cq_is (cq_named reply));
        parted_is = ap (λ (k : Cq). k.parted) (s.cq_is (cq_named reply));
        cq_asked = omega (arith, ap (λ (k : Cq). k.asked) (s.cq_is (cq_named reply)));
        asked = omega (arith, ap (λ (k : Admin). k.asked) s.admin_is);
        met = s.met;
        possible = possible start past log;
        numbers = s.numbers_are;
      };
    })
    (subst (λ (r : AdminCommand). IsPostedAt start past cq slot completion r) is (posted_at start past cq slot completion log h))
    )))

-- ---- logs
pub shown_log : (start : Start) (tells : Tells) (past less : Past) → TellsLess start.tells tells → ShowsLess tells past less → IsFaultlessLog start past → IsSeen start (seen_by start tells) past less × IsFaultlessLog (seen_by start tells) less
shown_log start tells _ _ t none log = (
  record {
    asked_is = λ q c. refl;
    number_is = λ q c. refl;
    sq_is = λ q. refl;
    cq_is = λ q. refl;
    admin_is = refl;
    submitted_is = λ e q. refl;
    submitted_le = λ q. omega arith;
    consumed_is = λ e q. refl;
    consumed_le = λ q. omega arith;
    numbers_are = inl refl;
    early = λ q k. k;
    met = λ k. k;
    marked = λ q c. omega arith;
    named = λ q c k. k;
    owed = λ q c k o. inl o;
  },
  tt,
)
shown_log start tells _ _ t (tail {past = past} {less = less} {sq = sq} {slot = slot} more) log =
    let u = shown_log start tells past less t more log.1 in
    let h = not_excused (is_sq_excused start past sq) _ (none_excused start past log.1 sq).0 (is_ruled start past (Tail sq slot) log.1 log.0) in
    (seen_tail start (seen_by start tells) past less sq slot (tail_fits (qsize_in (ring_of start past sq)) (submitted start past sq) (fetched past sq) slot h) u.0, (tail_seen start (seen_by start tells) past less sq slot u.0 h, u.1))
shown_log start tells _ _ t (head {past = past} {less = less} {cq = cq} {slot = slot} more) log =
    let u = shown_log start tells past less t more log.1 in
    let h = not_excused (is_cq_excused start past cq) _ (none_excused start past log.1 cq).1 (is_ruled start past (Head cq slot) log.1 log.0) in
    (seen_head start (seen_by start tells) past less cq slot (head_fits (qsize_of start past cq) (is_early start past cq) (posted past cq) (consumed start past cq) slot h) u.0, (head_seen start (seen_by start tells) past less cq slot u.0 h, u.1))
shown_log start tells _ _ t (tail_left_out {past = past} {less = less} {sq = sq} {slot = slot} off more) log =
    let u = shown_log start tells past less t more log.1 in (seen_without_tail start (seen_by start tells) past less sq slot off u.0, u.1)
shown_log start tells _ _ t (head_left_out {past = past} {less = less} {cq = cq} {slot = slot} off more) log =
    let u = shown_log start tells past less t more log.1 in (seen_without_head start (seen_by start tells) past less cq slot off u.0, u.1)
shown_log start tells _ _ t (fetch {past = past} {less = less} {sq = sq} {cid = cid} {command = command} {slot = slot} {shown = shown} at more) log =
    let u = shown_log start tells past less t more log.1 in
    let h = not_excused (is_sq_excused start past sq) _ (none_excused start past log.1 sq).0 (is_ruled start past (Fetch sq slot cid command) log.1 log.0) in
    (seen_fetch start (seen_by start tells) past less sq cid slot shown command u.0, (fetch_seen start (seen_by start tells) past less sq cid slot shown command t at u.0 h, u.1))
shown_log start tells _ _ t (post {past = past} {less = less} {cq = cq} {slot = slot} {shown = shown} {completion = completion} {sqhd = sqhd} {dw0 = dw0} {phase = phase} at_slot at_head at_phase at_dw0 more) log =
    let u = shown_log start tells past less t more log.1 in (
      seen_post start (seen_by start tells) past less cq slot shown completion sqhd dw0 phase (numbers_kept start past cq slot completion log.1 log.0) at_dw0 u.0,
      (post_seen start (seen_by start tells) past less cq slot shown completion sqhd dw0 phase t at_slot at_head at_phase at_dw0 u.0 log.1 u.1 log.0, u.1),
    )

pub less_is_faultless : LessIsFaultless
less_is_faultless start tells past less t shows log = (shown_log start tells past less t shows log).1
