-- The queues after what an admin command makes: those that were opened are served, and the pending deletion is of its queue.
use Rattle.std.proofs.Common.{◌≡◌, ℕ, ◌≤◌, ◌==◌, ◌||◌, Bool, true, false, if◌then◌else◌, List, [], ◌∷◌, map, take, Option, Some, None, refl, sym, ap, ◌∙◌, subst, arith}
use Rattle.std.specs.Prelude.{is_some, slice_get}
use Rattle.std.specs.List.{list_any}
use Rattle.std.proofs.lemmas.Bool.{eq-eqb, eqb-true, ne_eqb, or_left, or_right, true≢false}
use Rattle.std.proofs.lemmas.Option.{same_Some}
use Rattle.nvme_arbiter.specs.Limits.{queue_limit, highest_qid}
use Rattle.nvme_arbiter.specs.declared.pick.Pick.{Pick}
use Rattle.nvme_arbiter.specs.declared.pick.Seen.{Seen}
use Rattle.nvme_arbiter.specs.declared.settings.Class.{Class}
use Rattle.nvme_admin.specs.declared.verdict.Verdict.{Verdict}
use Rattle.nvme_admin.specs.declared.verdict.Verdict.TheVariants as verdict
use Rattle.nvme_log.specs.declared.event.Event.TheVariants as event
use Rattle.nvme_log.specs.Rules.{FrontRules, Past, Each, upto}
use Rattle.nvme_log.specs.Queues.{Queue, Deletion, open_sq, open_cq, has_region, is_open_region, pending, is_deleted_region, is_closed_region, qid_of_region, is_serving}
use Rattle.nvme_log.specs.Places.{waiting}
use Rattle.nvme_log.specs.Effects.{named, closing_of, closed_cq_of, abort_in, target_of, made_by}
use Rattle.nvme_log.specs.Account.{latest_admin_place}
use Rattle.nvme_ctrl_content.specs.Content.{Content}
use Rattle.nvme_ctrl_content.specs.Standing.{Holds}
use Rattle.nvme_ctrl_log.proofs.LaterEvents.{with_events}
use Rattle.nvme_ctrl_content.proofs.OpenQueues.{any_upto}
use Rattle.nvme_engine.specs.Standing.{BeginsAlone, ServesItsQueues, DeletesItsQueue}

-- ---- the same queues
-- a later log has the same queues
pub record SameQueues (past later : Past) : Type 0 where
  pub opens : (q : ℕ) → open_sq later q ≡ open_sq past q
  pub pends : pending later ≡ pending past
  pub names : (r : ℕ) → qid_of_region later r ≡ qid_of_region past r
  pub closed : (r : ℕ) → is_closed_region later r ≡ is_closed_region past r

same_after_aborts : (r : ℕ) (is : List ℕ) (past : Past) → SameQueues past (with_events (map (λ (i : ℕ). event.Abort r i) is) past)
same_after_aborts r [] past = record { opens = λ q. refl; pends = refl; names = λ x. refl; closed = λ x. refl }
same_after_aborts r (i ∷ is) past =
    let more = same_after_aborts r is (event.Abort r i ∷ past) in
    record { opens = more.opens; pends = more.pends; names = more.names; closed = more.closed }

same_after_closing : (mid : Past) (qid : ℕ) (o : Option ℕ) → SameQueues mid (with_events (closed_cq_of qid o) mid)
same_after_closing mid qid None = record { opens = λ q. refl; pends = refl; names = λ x. refl; closed = λ x. refl }
same_after_closing mid qid (Some region) = record { opens = λ q. refl; pends = refl; names = λ x. refl; closed = λ x. refl }

same_after_abort : (past mid : Past) (cid : ℕ) (o : Option Queue) → SameQueues mid (with_events (abort_in past cid o) mid)
same_after_abort past mid cid None = record { opens = λ q. refl; pends = refl; names = λ x. refl; closed = λ x. refl }
same_after_abort past mid cid (Some queue) = same_after_aborts queue.region (take 1 (named past queue.region cid)) mid

-- a region is served where it was in a log with the same queues
same_serving : (past later : Past) → SameQueues past later → (r : ℕ) → is_serving later r ≡ is_serving past r
same_serving past later same r = λ t. list_any (λ (q : ℕ). has_region r (same.opens q t)) (upto queue_limit) || is_deleted_region (same.pends t) r

serves_same : (past later : Past) → SameQueues past later → ServesItsQueues past → ServesItsQueues later
serves_same past later same served r q is lives = same_serving past later same r ∙ served r q (sym (same.names r) ∙ is) (sym (same.closed r) ∙ lives)

deletes_same : (past later : Past) → SameQueues past later → DeletesItsQueue past → DeletesItsQueue later
deletes_same past later same named d is = same.names d.region ∙ named d (sym same.pends ∙ is)

-- ---- a queue on a region
record IsOn (past : Past) (q r : ℕ) : Type 0 where
  queue : Queue
  is : open_sq past q ≡ Some queue
  region : queue.region ≡ r

-- a test that passes at some number of a list
record Passes (test : ℕ → Bool) : Type 0 where
  at : ℕ
  is : test at ≡ true

any-passes : (test : ℕ → Bool) (xs : List ℕ) → list_any test xs ≡ true → Passes test
any-passes test [] h = absurd (cc h)
any-passes test (x ∷ xs) h = by (test x) refl h (any-passes test xs) where
  by : (b : Bool) → test x ≡ b → (b || list_any test xs) ≡ true → (list_any test xs ≡ true → Passes test) → Passes test
  by true e h later = record { at = x; is = e }
  by false e h later = later h

on_region : (past : Past) (q r : ℕ) (o : Option Queue) → open_sq past q ≡ o → has_region r o ≡ true → IsOn past q r
on_region past q r None e h = absurd (cc h)
on_region past q r (Some queue) e h = record { queue = queue; is = e; region = eqb-true queue.region r h }

no_or : (b : Bool) → (b || false) ≡ true → b ≡ true
no_or true h = refl
no_or false h = h

-- an open queue is served
serves_open : (past : Past) (q r : ℕ) (queue : Queue) → q ≤ highest_qid → open_sq past q ≡ Some queue → queue.region ≡ r → is_serving past r ≡ true
serves_open past q r queue few is region =
    or_left (is_open_region past r) (is_deleted_region (pending past) r)
    (any_upto (λ (x : ℕ). has_region r (open_sq past x)) queue_limit q (omega (arith, few)) (ap (has_region r) is ∙ eq-eqb queue.region r region))

-- ---- what an admin command makes
module _ (rules : FrontRules) (late : Bool) (past : Past) (k : Content) (s : Holds rules late past k) (served : ServesItsQueues past)
    (none : pending past ≡ None) where
  -- a queue that was opened and isn't closed is open
  open_on : (r q : ℕ) → qid_of_region past r ≡ Some q → is_closed_region past r ≡ false → IsOn past q r
  open_on r q is lives =
      let some : (is_open_region past r || false) ≡ true = ap (λ (d : Option Deletion). is_open_region past r || is_deleted_region d r) (sym none) ∙ served r q is lives in
      let found = any-passes (λ (x : ℕ). has_region r (open_sq past x)) (upto queue_limit) (no_or (is_open_region past r) some) in
      let on = on_region past found.at r (open_sq past found.at) refl found.is in
      let named : qid_of_region past r ≡ Some found.at = subst (λ (x : ℕ). qid_of_region past x ≡ Some found.at) on.region
      (s.lives.named found.at on.queue.region (s.lives.sqs found.at on.queue on.is)) in
      subst (λ (x : ℕ). IsOn past x r) (same_Some found.at q (sym named ∙ is)) on

  deletes_none : DeletesItsQueue past
  deletes_none d is = let both : None ≡ Some d = sym none ∙ is in absurd (cc both)

  -- a submission queue is opened
  module _ (seen : List Seen) (pick : Pick) (qid region cqid : ℕ) (class : Class) (other : FrontRules) (is_late : Bool) (l : Content)
      (after : Holds other is_late (event.OpenSq qid region cqid class ∷ event.Pick seen pick ∷ past) l) where
    abbrev opened : Past
    opened = event.OpenSq qid region cqid class ∷ event.Pick seen pick ∷ past

    abbrev the_queue : Queue
    the_queue = record { region = region; cqid = cqid; class = class }

    is_opened : open_sq opened qid ≡ Some the_queue
    is_opened = ap (λ (b : Bool). if b then Some the_queue else open_sq past qid) (eq-eqb qid qid refl)

    serves_opened : ServesItsQueues opened
    serves_opened r q is lives = by (region == r) refl is where
      others : (q : ℕ) → (qid ≡ q → ⊥) → IsOn past q r → is_serving opened r ≡ true
      others q apart on =
          serves_open opened q r on.queue (s.queues.few q on.queue on.is)
          (ap (λ (b : Bool). if b then Some the_queue else open_sq past q) (ne_eqb qid q apart) ∙ on.is) on.region

      by : (b : Bool) → (region == r) ≡ b → (if b then Some qid else qid_of_region past r) ≡ Some q → is_serving opened r ≡ true
      by true e named = serves_open opened qid r the_queue (after.queues.few qid the_queue is_opened) is_opened (eqb-true region r e)
      by false e named =
          others q (λ same.
          let here = after.lives.sqs qid the_queue is_opened in
          let there : l.sq_life qid ≡ Some r = subst (λ (x : ℕ). l.sq_life x ≡ Some r) (sym same) (after.lives.there r q is lives) in
          true≢false (sym (eq-eqb region r (same_Some region r (sym here ∙ there))) ∙ e))
          (open_on r q named lives)

  -- the deletion of an open queue begins
  module _ (seen : List Seen) (pick : Pick) (qid : ℕ) (queue : Queue) (is_open : open_sq past qid ≡ Some queue) where
    abbrev begun : Past
    begun = event.Closing qid queue.region ∷ event.Pick seen pick ∷ past

    serves_begun : ServesItsQueues begun
    serves_begun r q is lives = by (queue.region == r) refl where
      by : (b : Bool) → (queue.region == r) ≡ b → is_serving begun r ≡ true
      by true e = or_right (is_open_region begun r) (queue.region == r) e
      by false e =
          let on = open_on r q is lives in
          let apart : qid ≡ q → ⊥ = λ same_id.
          let both : Some queue ≡ Some on.queue = sym is_open ∙ ap (open_sq past) same_id ∙ on.is in
          true≢false (sym (eq-eqb queue.region r (ap (λ (x : Queue). x.region) (same_Some queue on.queue both) ∙ on.region)) ∙ e) in
          serves_open begun q r on.queue (s.queues.few q on.queue on.is)
          (ap (λ (b : Bool). if b then None else open_sq past q) (ne_eqb qid q apart) ∙ on.is) on.region

    deletes_begun : DeletesItsQueue begun
    deletes_begun d is =
        let it : record { qid = qid; region = queue.region } ≡ d = same_Some (record { qid = qid; region = queue.region }) d is in
        subst (λ (x : Deletion). qid_of_region past x.region ≡ Some x.qid) it (s.lives.named qid queue.region (s.lives.sqs qid queue is_open))

  -- ---- by the verdict
  abbrev Kept : Past → Type 0
  Kept later = ServesItsQueues later × DeletesItsQueue later

  kept_same : (seen : List Seen) (pick : Pick) (later : Past) → SameQueues (event.Pick seen pick ∷ past) later → Kept later
  kept_same seen pick later same =
      (serves_same (event.Pick seen pick ∷ past) later same served, deletes_same (event.Pick seen pick ∷ past) later same deletes_none)

  kept_begun : (seen : List Seen) (pick : Pick) (qid : ℕ) (o : Option Queue) → open_sq past qid ≡ o → Kept (with_events (closing_of past qid o) (event.Pick seen pick ∷ past))
  kept_begun seen pick qid None is = kept_same seen pick (event.Pick seen pick ∷ past) (record { opens = λ q. refl; pends = refl; names = λ x. refl; closed = λ x. refl })
  kept_begun seen pick qid (Some queue) is =
      let first : Past = event.Closing qid queue.region ∷ event.Pick seen pick ∷ past in
      let same = same_after_aborts queue.region (waiting past queue.region) first in
      let later = with_events (map (λ (i : ℕ). event.Abort queue.region i) (waiting past queue.region)) first in (
        serves_same first later same (serves_begun seen pick qid queue is),
        deletes_same first later same (deletes_begun seen pick qid queue is),
      )

  pub kept_made : (seen : List Seen) (pick : Pick) (v : Verdict) (other : FrontRules) (is_late : Bool) (l : Content)
      → Holds other is_late (with_events (made_by past v) (event.Pick seen pick ∷ past)) l → Kept (with_events (made_by past v) (event.Pick seen pick ∷ past))
  kept_made seen pick (verdict.Done status dw0) other is_late l after =
      kept_same seen pick (event.Pick seen pick ∷ past) (record { opens = λ q. refl; pends = refl; names = λ x. refl; closed = λ x. refl })
  kept_made seen pick (verdict.OpenSq qid region cqid class) other is_late l after =
      (serves_opened seen pick qid region cqid class other is_late l after, λ d is. absurd (no_deletion d (sym none ∙ is))) where
        no_deletion : (d : Deletion) → None ≡ Some d → ⊥
        no_deletion d both = cc both
  kept_made seen pick (verdict.OpenCq qid region) other is_late l after =
      kept_same seen pick (event.OpenCq qid region ∷ event.Pick seen pick ∷ past) (record { opens = λ q. refl; pends = refl; names = λ x. refl; closed = λ x. refl })
  kept_made seen pick (verdict.BeginDelete qid) other is_late l after = kept_begun seen pick qid (open_sq past qid) refl
  kept_made seen pick (verdict.CloseCq qid) other is_late l after =
      kept_same seen pick (with_events (closed_cq_of qid (open_cq past qid)) (event.Pick seen pick ∷ past)) (same_after_closing (event.Pick seen pick ∷ past) qid (open_cq past qid))
  kept_made seen pick (verdict.Abort sqid cid) other is_late l after =
      kept_same seen pick (with_events (abort_in past cid (target_of past sqid)) (event.Pick seen pick ∷ past)) (same_after_abort past (event.Pick seen pick ∷ past) cid (target_of past sqid))
  kept_made seen pick (verdict.SetArbitration settings) other is_late l after =
      kept_same seen pick (event.SetArbitration settings ∷ event.Pick seen pick ∷ past) (record { opens = λ q. refl; pends = refl; names = λ x. refl; closed = λ x. refl })

-- ---- a deletion begins alone
begins_aborts : (r : ℕ) (is : List ℕ) (past : Past) → Each BeginsAlone past → Each BeginsAlone (with_events (map (λ (i : ℕ). event.Abort r i) is) past)
begins_aborts r [] past alone = alone
begins_aborts r (i ∷ is) past alone = begins_aborts r is (event.Abort r i ∷ past) (tt, alone)

-- what an admin command makes begins one while none is pending
module _ (past : Past) (seen : List Seen) (pick : Pick) (index : ℕ) where
  abbrev picked : Past
  picked = event.Pick seen pick ∷ past

  begins_closed : (qid : ℕ) (o : Option ℕ) → Each BeginsAlone picked → Each BeginsAlone (with_events (closed_cq_of qid o) picked)
  begins_closed qid None alone = alone
  begins_closed qid (Some region) alone = (tt, alone)

  begins_abort : (cid : ℕ) (o : Option Queue) → Each BeginsAlone picked → Each BeginsAlone (with_events (abort_in past cid o) picked)
  begins_abort cid None alone = alone
  begins_abort cid (Some queue) alone = begins_aborts queue.region (take 1 (named past queue.region cid)) picked alone

  begins_closing : (qid : ℕ) (o : Option Queue) → pending past ≡ None → is_some (latest_admin_place picked) ≡ true → Each BeginsAlone picked
      → Each BeginsAlone (with_events (closing_of past qid o) picked)
  begins_closing qid None none latest alone = alone
  begins_closing qid (Some queue) none latest alone = begins_aborts queue.region (waiting past queue.region) (event.Closing qid queue.region ∷ picked) ((none, latest), alone)

  pub begins_made : (v : Verdict) → pending past ≡ None → pick.qid ≡ 0 → slice_get (waiting past 0) 0 ≡ Some index → Each BeginsAlone past
      → Each BeginsAlone (with_events (made_by past v) picked)
  begins_made (verdict.Done status dw0) none admin oldest alone = (tt, alone)
  begins_made (verdict.OpenSq qid region cqid class) none admin oldest alone = (tt, (tt, alone))
  begins_made (verdict.OpenCq qid region) none admin oldest alone = (tt, (tt, alone))
  begins_made (verdict.BeginDelete qid) none admin oldest alone =
      begins_closing qid (open_sq past qid) none
      (ap (λ (b : Bool). is_some (if b then slice_get (waiting past 0) 0 else latest_admin_place past)) (eq-eqb pick.qid 0 admin) ∙ ap (λ (o : Option ℕ). is_some o) oldest) (tt, alone)
  begins_made (verdict.CloseCq qid) none admin oldest alone = begins_closed qid (open_cq past qid) (tt, alone)
  begins_made (verdict.Abort sqid cid) none admin oldest alone = begins_abort cid (target_of past sqid) (tt, alone)
  begins_made (verdict.SetArbitration settings) none admin oldest alone = (tt, (tt, alone))
