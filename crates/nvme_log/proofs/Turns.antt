-- What the latest pick makes: which command made an event, and what an accounted log never opens, closes or aborts.
use Rattle.std.proofs.Common.{◌≡◌, ℕ, ◌+◌, ◌<◌, ◌≤◌, ◌==◌, ◌&&◌, ◌||◌, Bool, true, false, not, nat_lt, if◌then◌else◌, List, [], ◌∷◌, ◌++◌, length, map, take, Option, Some, None, refl, sym, ap, ◌∙◌, subst, arith, ◌⊎◌, inl, inr}
use Rattle.std.proofs.lemmas.Bool.{eqb-true, eqb-false, ne_eqb, ltb-true, lt-ltb, or_cases, and_parts, false_from_ne_true}
use Rattle.std.proofs.lemmas.Option.{none-some, same_Some}
use Rattle.nvme_entry.specs.declared.submission.Sqe.{Sqe}
use Rattle.nvme_arbiter.specs.declared.pick.Seen.{Seen}
use Rattle.nvme_arbiter.specs.declared.pick.Pick.{Pick}
use Rattle.nvme_arbiter.specs.declared.settings.Class.{Class}
use Rattle.nvme_admin.specs.History.{Start, TableHistory}
use Rattle.nvme_admin.specs.Accepted.{queue_table, verdict_of}
use Rattle.nvme_admin.specs.Changes.{IsDue, MayOpenSq, MayBeginDelete}
use Rattle.nvme_admin.specs.declared.verdict.Verdict.{Verdict}
use Rattle.nvme_admin.specs.declared.verdict.Verdict.TheVariants.{Done, BeginDelete, CloseCq}
use Rattle.nvme_admin.specs.declared.verdict.Verdict.TheVariants as verdict
use Rattle.nvme_admin.proofs.Changed.{TellsChange-entry}
use Rattle.nvme_log.specs.declared.event.Event.{Event}
use Rattle.nvme_log.specs.declared.event.Event.TheVariants.{Fetch, SetArbitration, OpenSq, OpenCq, Closing, Abort, Post, ClosedSq, ClosedCq}
use Rattle.nvme_log.specs.declared.event.Event.TheVariants as event
use Rattle.nvme_log.specs.Rules.{Past, FrontRules, Each, upto}
use Rattle.nvme_log.specs.Queues.{Queue, admin_queue, open_sq, open_cq, has_region}
use Rattle.nvme_log.specs.Places.{fetched, picked, waiting, fate_of, is_waiting, is_aborted, unaborted_below, entry_at}
use Rattle.nvme_log.specs.Histories.{table_history, admin_entry, picks_in}
use Rattle.nvme_log.specs.Effects.{has_cid, named, abort_in, target_of, closing_of, closed_cq_of, made_by, made_of, made_last, effects_since, EffectsAtOnce}
use Rattle.nvme_log.proofs.Counting.{counts_less, fate_by}
use Rattle.nvme_log.proofs.Members.{IsIn, in-all, only, in-prefix, in-take, in-filter, filter-in, in-upto, Ascending, ascending, apart}
use Rattle.nvme_log.proofs.Prefixes.{Each-after}
use Rattle.nvme_log.proofs.Waiting.{upto-below, waiting-ascending, waiting-pick}

-- ---- places that wait
-- the places that wait are the fetched ones with that fate
pub waits-in : (past : Past) (r i : ℕ) → i < length (fetched past r) → is_waiting (fate_of past r i) ≡ true → IsIn i (waiting past r)
waits-in past r i lt w = filter-in (λ (k : ℕ). is_waiting (fate_of past r k)) i (upto (length (fetched past r))) (in-upto i (length (fetched past r)) lt) w

pub in-waits : (past : Past) (r i : ℕ) → IsIn i (waiting past r) → (i < length (fetched past r)) × (is_waiting (fate_of past r i) ≡ true)
in-waits past r i h =
    let both = in-filter (λ (k : ℕ). is_waiting (fate_of past r k)) i (upto (length (fetched past r))) h in
    (in-all (λ (k : ℕ). k < length (fetched past r)) i (upto (length (fetched past r))) (upto-below (length (fetched past r))) both.0, both.1)

pub waiting-rises : (past : Past) (r : ℕ) → Ascending (waiting past r)
waiting-rises past r = ascending (waiting past r) (waiting-ascending past r)

-- a place that was picked or aborted stays so, whatever more is aborted or picked
stays_by : (a b : Bool) (u v p q : ℕ) → (a ≡ true → b ≡ true) → v ≤ u → p ≤ q → is_waiting (fate_by a (nat_lt u p)) ≡ false → is_waiting (fate_by b (nat_lt v q)) ≡ false
stays_by a true u v p q h less more w = refl
stays_by true false u v p q h less more w = absurd (let e : false ≡ true = h refl in cc)
stays_by false false u v p q h less more w = by (nat_lt u p) refl w where
  by : (c : Bool) → nat_lt u p ≡ c → is_waiting (fate_by false c) ≡ false → is_waiting (fate_by false (nat_lt v q)) ≡ false
  by true e k = let lt : u < p = ltb-true u p e in rw (lt-ltb v q (omega (arith, lt, less, more))) refl
  by false e k = cc k

-- a place that doesn't wait never waits again
pub stays : (e : Event) (past : Past) (r i : ℕ) → is_waiting (fate_of past r i) ≡ false → is_waiting (fate_of (e ∷ past) r i) ≡ false
stays (event.Pick seen pick) past r i w =
    stays_by (is_aborted past r i) (is_aborted past r i) (unaborted_below past r i) (unaborted_below past r i) (picked past r) (picked (event.Pick seen pick ∷ past) r)
    (λ h. h) (omega arith) (more (has_region r (open_sq past pick.qid))) w where
      more : (b : Bool) → picked past r ≤ (if b then picked past r + pick.n else picked past r)
      more true = omega arith
      more false = omega arith
stays (Abort region index) past r i w =
    stays_by (is_aborted past r i) (is_aborted (Abort region index ∷ past) r i) (unaborted_below past r i) (unaborted_below (Abort region index ∷ past) r i) (picked past r) (picked past r)
    (λ h. or_so (region == r && index == i) h)
    (counts_less (λ (k : ℕ). not (is_aborted (Abort region index ∷ past) r k)) (λ (k : ℕ). not (is_aborted past r k)) (λ k h. fewer (region == r && index == k) (is_aborted past r k) h) (upto i))
    (omega arith) w where
      or_so : (c : Bool) → is_aborted past r i ≡ true → (c || is_aborted past r i) ≡ true
      or_so true h = refl
      or_so false h = h

      fewer : (c a : Bool) → not (c || a) ≡ true → not a ≡ true
      fewer true a h = cc h
      fewer false a h = h
stays e past r i w = w

pub stays_on : (later past : Past) (r i : ℕ) → is_waiting (fate_of past r i) ≡ false → is_waiting (fate_of (later ++ past) r i) ≡ false
stays_on [] past r i w = w
stays_on (e ∷ later) past r i w = stays e (later ++ past) r i (stays_on later past r i w)

-- the places that a pick takes don't wait after it
pub taken-waits_not : (past : Past) (seen : List Seen) (pick : Pick) (r i : ℕ) → has_region r (open_sq past pick.qid) ≡ true → IsIn i (take pick.n (waiting past r))
    → is_waiting (fate_of (event.Pick seen pick ∷ past) r i) ≡ false
taken-waits_not past seen pick r i own h =
    false_from_ne_true (is_waiting (fate_of (event.Pick seen pick ∷ past) r i))
    (λ w. apart i pick.n (waiting past r) (waiting-rises past r) h
    (subst (IsIn i) (waiting-pick past seen pick r own) (waits-in (event.Pick seen pick ∷ past) r i (in-waits past r i (in-take i pick.n (waiting past r) h)).0 w)))

-- ---- what a verdict makes
-- an abort among some of one region
pub aborts-in : (region r i : ℕ) (is : List ℕ) → IsIn (Abort r i) (map (λ (k : ℕ). Abort region k) is) → (region ≡ r) × IsIn i is
aborts-in region r i [] h = absurd h
aborts-in region r i (k ∷ is) (inl e) = (cc e, inl (cc e))
aborts-in region r i (k ∷ is) (inr h) = let rest = aborts-in region r i is h in (rest.0, inr rest.1)

-- no other event stands there
open_not_abort : (qid region cqid r : ℕ) (class : Class) (is : List ℕ) → IsIn (OpenSq qid region cqid class) (map (λ (k : ℕ). Abort r k) is) → ⊥
open_not_abort qid region cqid r class [] h = h
open_not_abort qid region cqid r class (k ∷ is) (inl e) = cc e
open_not_abort qid region cqid r class (k ∷ is) (inr h) = open_not_abort qid region cqid r class is h

pub closing_not_abort : (qid region r : ℕ) (is : List ℕ) → IsIn (Closing qid region) (map (λ (k : ℕ). Abort r k) is) → ⊥
closing_not_abort qid region r [] h = h
closing_not_abort qid region r (k ∷ is) (inl e) = cc e
closing_not_abort qid region r (k ∷ is) (inr h) = closing_not_abort qid region r is h

-- a queue is opened by its Create
pub opened-by : (past : Past) (v : Verdict) (qid region cqid : ℕ) (class : Class) → IsIn (OpenSq qid region cqid class) (made_by past v) → v ≡ verdict.OpenSq qid region cqid class
opened-by past (Done status dw0) qid region cqid class h = absurd h
opened-by past (verdict.OpenSq q r c k) qid region cqid class h = let e : OpenSq q r c k ≡ OpenSq qid region cqid class = only _ _ h in cc
opened-by past (verdict.OpenCq q r) qid region cqid class h = absurd (let e : OpenCq q r ≡ OpenSq qid region cqid class = only _ _ h in cc)
opened-by past (BeginDelete q) qid region cqid class h = by (open_sq past q) h where
  by : (o : Option Queue) → IsIn (OpenSq qid region cqid class) (closing_of past q o) → BeginDelete q ≡ verdict.OpenSq qid region cqid class
  by None k = absurd k
  by (Some queue) (inl e) = absurd (cc e)
  by (Some queue) (inr k) = absurd (open_not_abort qid region cqid queue.region class (waiting past queue.region) k)
opened-by past (CloseCq q) qid region cqid class h = by (open_cq past q) h where
  by : (o : Option ℕ) → IsIn (OpenSq qid region cqid class) (closed_cq_of q o) → CloseCq q ≡ verdict.OpenSq qid region cqid class
  by None k = absurd k
  by (Some r) k = absurd (let e : ClosedCq q r ≡ OpenSq qid region cqid class = only _ _ k in cc)
opened-by past (verdict.Abort s c) qid region cqid class h = by (target_of past s) h where
  by : (o : Option Queue) → IsIn (OpenSq qid region cqid class) (abort_in past c o) → verdict.Abort s c ≡ verdict.OpenSq qid region cqid class
  by None k = absurd k
  by (Some queue) k = absurd (open_not_abort qid region cqid queue.region class (take 1 (named past queue.region c)) k)
opened-by past (verdict.SetArbitration settings) qid region cqid class h = absurd (let e : SetArbitration settings ≡ OpenSq qid region cqid class = only _ _ h in cc)

-- a deletion begins by its Delete
pub begun-by : (past : Past) (v : Verdict) (qid region : ℕ) → IsIn (Closing qid region) (made_by past v) → v ≡ BeginDelete qid
begun-by past (Done status dw0) qid region h = absurd h
begun-by past (verdict.OpenSq q r c k) qid region h = absurd (let e : OpenSq q r c k ≡ Closing qid region = only _ _ h in cc)
begun-by past (verdict.OpenCq q r) qid region h = absurd (let e : OpenCq q r ≡ Closing qid region = only _ _ h in cc)
begun-by past (BeginDelete q) qid region h = by (open_sq past q) h where
  by : (o : Option Queue) → IsIn (Closing qid region) (closing_of past q o) → BeginDelete q ≡ BeginDelete qid
  by None k = absurd k
  by (Some queue) (inl e) = cc e
  by (Some queue) (inr k) = absurd (closing_not_abort qid region queue.region (waiting past queue.region) k)
begun-by past (CloseCq q) qid region h = by (open_cq past q) h where
  by : (o : Option ℕ) → IsIn (Closing qid region) (closed_cq_of q o) → CloseCq q ≡ BeginDelete qid
  by None k = absurd k
  by (Some r) k = absurd (let e : ClosedCq q r ≡ Closing qid region = only _ _ k in cc)
begun-by past (verdict.Abort s c) qid region h = by (target_of past s) h where
  by : (o : Option Queue) → IsIn (Closing qid region) (abort_in past c o) → verdict.Abort s c ≡ BeginDelete qid
  by None k = absurd k
  by (Some queue) k = absurd (closing_not_abort qid region queue.region (take 1 (named past queue.region c)) k)
begun-by past (verdict.SetArbitration settings) qid region h = absurd (let e : SetArbitration settings ≡ Closing qid region = only _ _ h in cc)

-- a place that a verdict aborts waits in the region of an open queue: the verdict is that of an Abort command or of a Delete of this queue
pub record AbortedBy (past : Past) (v : Verdict) (r i : ℕ) : Type 0 where
  pub qid : ℕ
  pub queue : Queue
  pub is_open : open_sq past qid ≡ Some queue
  pub region : queue.region ≡ r
  pub waits : IsIn i (waiting past r)
  pub cause : ((cid : ℕ) × (v ≡ verdict.Abort qid cid) × (qid ≡ 0 → ⊥)) ⊎ (v ≡ BeginDelete qid)

pub aborted-by : (past : Past) (v : Verdict) (r i : ℕ) → IsIn (Abort r i) (made_by past v) → AbortedBy past v r i
aborted-by past (Done status dw0) r i h = absurd h
aborted-by past (verdict.OpenSq q region c k) r i h = absurd (let e : OpenSq q region c k ≡ Abort r i = only _ _ h in cc)
aborted-by past (verdict.OpenCq q region) r i h = absurd (let e : OpenCq q region ≡ Abort r i = only _ _ h in cc)
aborted-by past (BeginDelete q) r i h = by (open_sq past q) refl h where
  by : (o : Option Queue) → open_sq past q ≡ o → IsIn (Abort r i) (closing_of past q o) → AbortedBy past (BeginDelete q) r i
  by None is k = absurd k
  by (Some queue) is (inl e) = absurd (cc e)
  by (Some queue) is (inr k) =
      let it = aborts-in queue.region r i (waiting past queue.region) k in
      record { qid = q; queue = queue; is_open = is; region = it.0; waits = subst (λ (z : ℕ). IsIn i (waiting past z)) it.0 it.1; cause = inr refl }
aborted-by past (CloseCq q) r i h = by (open_cq past q) h where
  by : (o : Option ℕ) → IsIn (Abort r i) (closed_cq_of q o) → AbortedBy past (CloseCq q) r i
  by None k = absurd k
  by (Some region) k = absurd (let e : ClosedCq q region ≡ Abort r i = only _ _ k in cc)
aborted-by past (verdict.Abort s c) r i h = by (s == 0) refl (open_sq past s) refl h where
  by : (b : Bool) → (s == 0) ≡ b → (o : Option Queue) → open_sq past s ≡ o → IsIn (Abort r i) (abort_in past c (if b then None else o)) → AbortedBy past (verdict.Abort s c) r i
  by true z o is k = absurd k
  by false z None is k = absurd k
  by false z (Some queue) is k =
      let it = aborts-in queue.region r i (take 1 (named past queue.region c)) k in
      let among : IsIn i (waiting past queue.region) = (in-filter (λ (j : ℕ). has_cid c (entry_at past queue.region j)) i (waiting past queue.region) (in-take i 1 (named past queue.region c) it.1)).0 in
      record {
        qid = s;
        queue = queue;
        is_open = is;
        region = it.0;
        waits = subst (λ (z : ℕ). IsIn i (waiting past z)) it.0 among;
        cause = inl (c, refl, eqb-false s 0 z);
      }
aborted-by past (verdict.SetArbitration settings) r i h = absurd (let e : SetArbitration settings ≡ Abort r i = only _ _ h in cc)

-- the queue that an Abort command may abort from
pub target-is : (past : Past) (sqid : ℕ) (queue : Queue) → (sqid ≡ 0 → ⊥) → open_sq past sqid ≡ Some queue → target_of past sqid ≡ Some queue
target-is past sqid queue io is = rw (ne_eqb sqid 0 io) is

-- ---- which command made an event
-- the command of the latest pick makes it
pub record IsMadeBy (rules : FrontRules) (past : Past) (e : Event) : Type 0 where
  pub between : Past
  pub before : Past
  pub seen : List Seen
  pub pick : Pick
  pub stands : past ≡ between ++ event.Pick seen pick ∷ before
  pub no_pick : picks_in between ≡ 0
  pub of_admin : pick.qid ≡ 0
  pub entry : Sqe
  pub entry_is : admin_entry before ≡ Some entry
  pub made : IsIn e (made_by before (verdict_of rules.start (table_history rules before) entry))

pub made-by : (rules : FrontRules) (past : Past) (e : Event) → IsIn e (made_last rules past) → IsMadeBy rules past e
made-by rules [] e h = absurd h
made-by rules (event.Pick seen pick ∷ past) e h = by (pick.qid == 0) refl (admin_entry past) refl h where
  by : (b : Bool) → (pick.qid == 0) ≡ b → (o : Option Sqe) → admin_entry past ≡ o → IsIn e (if b then made_of rules past o else []) → IsMadeBy rules (event.Pick seen pick ∷ past) e
  by false z o is k = absurd k
  by true z None is k = absurd k
  by true z (Some entry) is k = record {
    between = [];
    before = past;
    seen = seen;
    pick = pick;
    stands = refl;
    no_pick = refl;
    of_admin = eqb-true pick.qid 0 z;
    entry = entry;
    entry_is = is;
    made = k;
  }
made-by rules (x ∷ past) e h =
    let it = made-by rules past e h in
    record {
      between = x ∷ it.between;
      before = it.before;
      seen = it.seen;
      pick = it.pick;
      stands = ap (λ (z : Past). x ∷ z) it.stands;
      no_pick = it.no_pick;
      of_admin = it.of_admin;
      entry = it.entry;
      entry_is = it.entry_is;
      made = it.made;
    }

-- what holds of each event holds of those before the pick
pub before-pick : (P : Past → Event → Type 0) (between before : Past) (e : Event) (past : Past) → past ≡ between ++ e ∷ before → Each P past → Each P before
before-pick P between before e past is h = (Each-after P between (e ∷ before) (subst (Each P) is h)).1

-- ---- the admin queue stays, and no other queue has its region
-- region 0 is used from the beginning
pub region_0-used : (start : Start) (h : TableHistory) → (queue_table start h).sq_region_used 0 ≡ true
unfolding queue_table
region_0-used start h = refl

opens-io : (rules : FrontRules) (past : Past) (qid region cqid : ℕ) (class : Class) → EffectsAtOnce rules past (OpenSq qid region cqid class) → (qid ≡ 0 → ⊥) × (region ≡ 0 → ⊥)
opens-io rules past qid region cqid class h =
    let it = made-by rules past (OpenSq qid region cqid class) (in-prefix (effects_since past) (made_last rules past) (OpenSq qid region cqid class) h) in
    let t : TableHistory = table_history rules it.before in
    let is = opened-by it.before (verdict_of rules.start t it.entry) qid region cqid class it.made in
    let due : MayOpenSq (queue_table rules.start t) qid region cqid class = subst (IsDue (queue_table rules.start t)) is (TellsChange-entry rules.start t it.entry).due in (
      due.not_admin,
      λ z. let used : (queue_table rules.start t).sq_region_used region ≡ true = ap (queue_table rules.start t).sq_region_used z ∙ region_0-used rules.start t in
          let unused : (queue_table rules.start t).sq_region_used region ≡ false = due.unused in cc,
    )

closes-io : (rules : FrontRules) (past : Past) (qid region : ℕ) → EffectsAtOnce rules past (Closing qid region) → qid ≡ 0 → ⊥
closes-io rules past qid region h =
    let it = made-by rules past (Closing qid region) (in-prefix (effects_since past) (made_last rules past) (Closing qid region) h) in
    let t : TableHistory = table_history rules it.before in
    let is = begun-by it.before (verdict_of rules.start t it.entry) qid region it.made in
    let due : MayBeginDelete (queue_table rules.start t) qid = subst (IsDue (queue_table rules.start t)) is (TellsChange-entry rules.start t it.entry).due in
    due.not_admin

pub admin-stays : (rules : FrontRules) (past : Past) → Each (EffectsAtOnce rules) past → open_sq past 0 ≡ Some admin_queue
admin-stays rules [] h = refl
admin-stays rules (OpenSq qid region cqid class ∷ past) h = rw (ne_eqb qid 0 (opens-io rules past qid region cqid class h.0).0) (admin-stays rules past h.1)
admin-stays rules (Closing qid region ∷ past) h = rw (ne_eqb qid 0 (closes-io rules past qid region h.0)) (admin-stays rules past h.1)
admin-stays rules (e ∷ past) h = admin-stays rules past h.1

pub region-io : (rules : FrontRules) (past : Past) → Each (EffectsAtOnce rules) past → (q : ℕ) (queue : Queue) → open_sq past q ≡ Some queue → (q ≡ 0 → ⊥) → queue.region ≡ 0 → ⊥
region-io rules [] h q queue is io =
    let none : open_sq [] q ≡ None = rw (ne_eqb q 0 io) refl in
    absurd (none-some queue (sym none ∙ is))
region-io rules (OpenSq qid region cqid class ∷ past) h q queue is io =
    by (qid == q) is (λ k. region-io rules past h.1 q queue k io) where
      by : (b : Bool) → (if b then Some (record { region = region; cqid = cqid; class = class }) else open_sq past q) ≡ Some queue
          → (open_sq past q ≡ Some queue → queue.region ≡ 0 → ⊥) → queue.region ≡ 0 → ⊥
      by true k f z =
          let same : region ≡ queue.region = ap (λ (x : Queue). x.region) (same_Some _ _ k) in
          (opens-io rules past qid region cqid class h.0).1 (same ∙ z)
      by false k f z = f k z
region-io rules (Closing qid region ∷ past) h q queue is io =
    by (qid == q) is (λ k. region-io rules past h.1 q queue k io) where
      by : (b : Bool) → (if b then None else open_sq past q) ≡ Some queue → (open_sq past q ≡ Some queue → queue.region ≡ 0 → ⊥) → queue.region ≡ 0 → ⊥
      by true k f z = none-some queue k
      by false k f z = f k z
region-io rules (e ∷ past) h q queue is io = region-io rules past h.1 q queue is io

-- who made an abort
pub record MadeAbort (rules : FrontRules) (past : Past) (r i : ℕ) : Type 0 where
  pub made : IsMadeBy rules past (Abort r i)
  pub aborted : AbortedBy made.before (verdict_of rules.start (table_history rules made.before) made.entry) r i
  pub of_io : aborted.qid ≡ 0 → ⊥

pub made-abort : (rules : FrontRules) (past : Past) (r i : ℕ) → IsIn (Abort r i) (made_last rules past) → MadeAbort rules past r i
made-abort rules past r i h =
    let it = made-by rules past (Abort r i) h in
    let t : TableHistory = table_history rules it.before in
    let v : Verdict = verdict_of rules.start t it.entry in
    let by = aborted-by it.before v r i it.made in
    record {
      made = it;
      aborted = by;
      of_io = elim by.cause [
        | inl c ↦ c.2
        | inr is ↦
            let due : MayBeginDelete (queue_table rules.start t) by.qid = subst (IsDue (queue_table rules.start t)) is (TellsChange-entry rules.start t it.entry).due in
            due.not_admin
      ];
    }

-- no place of the admin queue is aborted
pub admin-unaborted : (rules : FrontRules) (past : Past) → Each (EffectsAtOnce rules) past → (i : ℕ) → is_aborted past 0 i ≡ true → ⊥
admin-unaborted rules [] h i a = cc a
admin-unaborted rules (Abort region index ∷ past) h i a = elim (or_cases (region == 0 && index == i) (is_aborted past 0 i) a) [
  | inl here ↦
      let it = made-abort rules past region index (in-prefix (effects_since past) (made_last rules past) (Abort region index) h.0) in
      region-io rules it.made.before (before-pick (EffectsAtOnce rules) it.made.between it.made.before (event.Pick it.made.seen it.made.pick) past it.made.stands h.1)
      it.aborted.qid it.aborted.queue it.aborted.is_open it.of_io (it.aborted.region ∙ eqb-true region 0 (and_parts (region == 0) (index == i) here).0)
  | inr earlier ↦ admin-unaborted rules past h.1 i earlier
]
admin-unaborted rules (e ∷ past) h i a = admin-unaborted rules past h.1 i a
