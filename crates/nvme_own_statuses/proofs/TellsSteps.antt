-- What completions of Aborts say of other commands, event by event.
use Rattle.std.proofs.Common.{◌≡◌, ℕ, ◌<◌, ◌==◌, ◌&&◌, Bool, true, false, if◌then◌else◌, List, [], ◌∷◌, length, Option, Some, None, refl, sym, ap, ◌∙◌, subst, inl, inr, eqb-true, append_assoc}
use Rattle.std.specs.Prelude.{slice_get, option_and_then}
use Rattle.std.proofs.lemmas.Bool.{eq-eqb, ne_eqb, or_cases, or_left, or_right, and_parts, and_from, false_from_ne_true}
use Rattle.std.proofs.lemmas.Option.{none-some}
use Rattle.nvme_entry.specs.AdminCommand.{admin_command_of}
use Rattle.nvme_entry.specs.declared.submission.Sqe.{Sqe}
use Rattle.nvme_entry.specs.declared.admin.AdminCommand.TheVariants.{DeleteSq, Abort}
use Rattle.nvme_arbiter.specs.declared.pick.Pick.{Pick}
use Rattle.nvme_arbiter.specs.declared.pick.Seen.{Seen}
use Rattle.nvme_arbiter.specs.declared.settings.Class.{Class}
use Rattle.nvme_admin.specs.Accepted.{verdict_of}
use Rattle.nvme_admin.specs.declared.verdict.Verdict.{Verdict}
use Rattle.nvme_log.specs.declared.event.Event.{Event}
use Rattle.nvme_log.specs.declared.event.Event.TheVariants as event
use Rattle.nvme_log.specs.Rules.{FrontRules, Past, Each}
use Rattle.nvme_log.specs.Queues.{qid_of_region}
use Rattle.nvme_log.specs.Places.{fetched, waiting, entry_at, fate_of, is_waiting}
use Rattle.nvme_log.specs.Histories.{table_history, admin_entry}
use Rattle.nvme_log.specs.Aborts.{is_index, just_picked, has_aborted, took_abort, is_abort_requested}
use Rattle.nvme_log.specs.Completions.{is_posted}
use Rattle.nvme_log.specs.Effects.{made_by, made_of, made_last, effects_since, EffectsAtOnce}
use Rattle.nvme_log.proofs.AbortEntries.{verdict_is_abort}
use Rattle.nvme_log.proofs.LoadedRegions.{region-owned}
use Rattle.nvme_log.proofs.Members.{IsIn, in-first, in-prefix}
use Rattle.nvme_log.proofs.Turns.{AbortedBy, aborted-by, in-waits, stays}
use Rattle.nvme_ctrl_log.specs.Notes.{Notes, Logged, EachNote, logged}
use Rattle.nvme_ctrl_log.specs.Account.{IsLawful}
use Rattle.nvme_ctrl_log.proofs.AbortRequests.{took_pick}
use Rattle.nvme_own_log.proofs.Answered.{posted_so}
use Rattle.nvme_own_statuses.proofs.Causes.{abort_command, delete_command, aborted_cid}
use Rattle.nvme_own_statuses.proofs.Caused.{IsDue, none_due, due_before}
use Rattle.nvme_own_statuses.proofs.Counts.{at_below}
use Rattle.nvme_own_log.proofs.Phases.{IsPending}
use Rattle.nvme_own_statuses.proofs.Tells.{IsTaken, Leaves}

module _ (rules : FrontRules) where
  -- an effect that opens no submission queue and aborts none
  abbrev pub IsLeaving : Event → Type 0
  IsLeaving (event.SetArbitration settings) = Unit {0}
  IsLeaving (event.OpenCq qid region) = Unit {0}
  IsLeaving (event.Closing qid region) = Unit {0}
  IsLeaving (event.ClosedCq qid region) = Unit {0}
  IsLeaving e = ⊥

  pub leaves_effect : (past : Past) (e : Event) → IsLeaving e → Leaves rules past (e ∷ past)
  leaves_effect past (event.Fetch t j entry) l = absurd l
  leaves_effect past (event.Pick seen pick) l = absurd l
  leaves_effect past (event.OpenSq qid region cqid class) l = absurd l
  leaves_effect past (event.Abort region index) l = absurd l
  leaves_effect past (event.Post b t j cqe) l = absurd l
  leaves_effect past (event.ClosedSq qid region) l = absurd l
  leaves_effect past e l = record {
    fetched_same = refl;
    posted_same = λ r i. refl;
    outs_before = λ r i q x o. record { own = o.own; is_there = o.is_there; unposted = o.unposted };
    outs_after = λ r i q x o. record { own = o.own; is_there = o.is_there; unposted = o.unposted };
    requested = λ r i h. h;
    held = λ had r i h. record { of_device = h.of_device; waits_not = h.waits_not; unaborted = h.unaborted; none_due = λ d. h.none_due (due_before rules past e r i d.rest d.all d.among) };
    found = λ k h. inl h;
  }

  -- the end of a deletion
  pub leaves_closed : (past : Past) (qid region : ℕ) → effects_since past ≡ made_last rules past → Leaves rules past (event.ClosedSq qid region ∷ past)
  leaves_closed past qid region whole = record {
    fetched_same = refl;
    posted_same = λ r i. refl;
    outs_before = λ r i q x o. record { own = o.own; is_there = o.is_there; unposted = o.unposted };
    outs_after = λ r i q x o. record { own = o.own; is_there = o.is_there; unposted = o.unposted };
    requested = λ r i h. h;
    held = λ had r i h. record { of_device = h.of_device; waits_not = h.waits_not; unaborted = h.unaborted; none_due = λ d. none_due rules past r i whole (record { rest = d.rest; all = d.all; among = d.among }) };
    found = λ k h. inl h;
  }

  -- a queue is opened on a fresh region
  pub leaves_open : (past : Past) (qid region cqid : ℕ) (class : Class) → fetched past region ≡ [] → Leaves rules past (event.OpenSq qid region cqid class ∷ past)
  leaves_open past qid region cqid class fresh = record {
    fetched_same = refl;
    posted_same = λ r i. refl;
    outs_before = λ r i q x o. record {
      own = subst (λ (b : Bool). (if b then Some qid else qid_of_region past r) ≡ Some q) (other r i x o.is_there) o.own;
      is_there = o.is_there;
      unposted = o.unposted;
    };
    outs_after = λ r i q x o. record {
      own = subst (λ (b : Bool). (if b then Some qid else qid_of_region past r) ≡ Some q) (sym (other r i x o.is_there)) o.own;
      is_there = o.is_there;
      unposted = o.unposted;
    };
    requested = λ r i h. h;
    held = λ had r i h. record { of_device = h.of_device; waits_not = h.waits_not; unaborted = h.unaborted; none_due = λ d. h.none_due (due_before rules past (event.OpenSq qid region cqid class) r i d.rest d.all d.among) };
    found = λ k h. inl h;
  } where
    other : (r i : ℕ) (x : Sqe) → entry_at past r i ≡ Some x → (region == r) ≡ false
    other r i x at = ne_eqb region r (λ same. none-some x (ap (λ (xs : List Sqe). slice_get xs i) (sym fresh) ∙ ap (λ (z : ℕ). entry_at past z i) same ∙ at))

  -- a pick
  due_waits : (past : Past) (seen : List Seen) (pick : Pick) (r i : ℕ) → IsDue rules (event.Pick seen pick ∷ past) r i → is_waiting (fate_of past r i) ≡ true
  due_waits past seen pick r i d = by (pick.qid == 0) (admin_entry past) (subst (IsIn (event.Abort r i)) d.all d.among) where
    by : (b : Bool) (o : Option Sqe) → IsIn (event.Abort r i) (if b then made_of rules past o else []) → is_waiting (fate_of past r i) ≡ true
    by false o k = absurd k
    by true None k = absurd k
    by true (Some entry) k = (in-waits past r i (aborted-by past (verdict_of rules.start (table_history rules past) entry) r i k).waits).1

  pub leaves_pick : (past : Past) (seen : List Seen) (pick : Pick) → Leaves rules past (event.Pick seen pick ∷ past)
  leaves_pick past seen pick = record {
    fetched_same = refl;
    posted_same = λ r i. refl;
    outs_before = λ r i q x o. record { own = o.own; is_there = o.is_there; unposted = o.unposted };
    outs_after = λ r i q x o. record { own = o.own; is_there = o.is_there; unposted = o.unposted };
    requested = λ r i h. h;
    held = λ had r i h. record {
      of_device = h.of_device;
      waits_not = stays (event.Pick seen pick) past r i h.waits_not;
      unaborted = h.unaborted;
      none_due = λ d. let waits : is_waiting (fate_of past r i) ≡ true = due_waits past seen pick r i d in cc (waits, h.waits_not);
    };
    found = λ k h. inl (taken k (is_index k (if pick.qid == 0 then slice_get (waiting past 0) 0 else None)) h);
  } where
    taken : (k : ℕ) (b : Bool) → (if b then false else has_aborted past k) ≡ true → has_aborted past k ≡ true
    taken k true h = cc h
    taken k false h = h

  -- ---- an abort
  -- what was posted waits no longer
  posted_done : (notes : Notes) → EachNote (IsLawful rules) notes → (r i : ℕ) → is_posted (logged notes) r i ≡ true → is_waiting (fate_of (logged notes) r i) ≡ false
  posted_done [] h r i p = cc p
  posted_done (Logged (event.Post c t j cqe) ∷ notes) h r i p = elim (or_cases (t == r && j == i) (is_posted (logged notes) r i) p) [
    | inl here ↦
        let parts = and_parts (t == r) (j == i) here in
        subst (λ (z : ℕ). is_waiting (fate_of (logged notes) z i) ≡ false) (eqb-true t r parts.0)
        (subst (λ (z : ℕ). is_waiting (fate_of (logged notes) t z) ≡ false) (eqb-true j i parts.1) (posted_so rules notes c t j cqe h.1 h.0.posts_own).served)
    | inr before ↦ posted_done notes h.1 r i before
  ]
  posted_done (Logged e ∷ notes) h r i p = stays e (logged notes) r i (posted_done notes h.1 r i p)
  posted_done (note ∷ notes) h r i p = posted_done notes h.1 r i p

  -- the notes before the last event
  pub record Earlier (e : Event) (past : Past) : Type 0 where
    pub notes : Notes
    pub logs : logged notes ≡ past
    pub each : EachNote (IsLawful rules) notes

  earlier : (notes : Notes) → EachNote (IsLawful rules) notes → (e : Event) (past : Past) → logged notes ≡ e ∷ past → Earlier e past
  earlier [] h e past is = cc is
  earlier (Logged x ∷ notes) h e past is = record { notes = notes; logs = cc is; each = h.1 }
  earlier (note ∷ notes) h e past is = earlier notes h.1 e past is

  -- the place that an Abort takes at once after its pick
  found_now : (past : Past) → ((e : Event) (before : Past) → past ≡ e ∷ before → Earlier e before) → Each (EffectsAtOnce rules) past → (region index : ℕ) → EffectsAtOnce rules past (event.Abort region index) → (k : ℕ)
      → is_index k (just_picked past) ≡ true
      → (k < length (fetched past 0)) × ((q cid : ℕ) (a : Sqe) → IsPending rules past k a → admin_command_of a ≡ Abort q cid → IsTaken rules (event.Abort region index ∷ past) q cid)
  found_now (event.Pick seen pick ∷ before) earlier_of h region index now k taken =
      by (pick.qid == 0) refl (slice_get (waiting before 0) 0) refl taken where
        by : (b : Bool) → (pick.qid == 0) ≡ b → (o : Option ℕ) → slice_get (waiting before 0) 0 ≡ o → is_index k (if b then o else None) ≡ true
            → (k < length (fetched before 0)) × ((q cid : ℕ) (a : Sqe) → IsPending rules (event.Pick seen pick ∷ before) k a → admin_command_of a ≡ Abort q cid → IsTaken rules (event.Abort region index ∷ event.Pick seen pick ∷ before) q cid)
        by false z o is t = cc t
        by true z None is t = cc t
        by true z (Some j) is t =
            let oldest : slice_get (waiting before 0) 0 ≡ Some k = is ∙ ap (λ (n : ℕ). Some n) (eqb-true j k t) in
            ((in-waits before 0 k (in-first k (waiting before 0) oldest)).0, λ q cid a p command. taken_by oldest q cid a p command) where
              taken_by : slice_get (waiting before 0) 0 ≡ Some k → (q cid : ℕ) (a : Sqe) → IsPending rules (event.Pick seen pick ∷ before) k a → admin_command_of a ≡ Abort q cid
                  → IsTaken rules (event.Abort region index ∷ event.Pick seen pick ∷ before) q cid
              taken_by oldest q cid a p command =
                  let entry_is : admin_entry before ≡ Some a = ap (option_and_then (entry_at before 0)) oldest ∙ p.0 in
                  let v : Verdict = verdict_of rules.start (table_history rules before) a in
                  let made : IsIn (event.Abort region index) (made_by before v) =
                  subst (λ (o : Option Sqe). IsIn (event.Abort region index) (made_of rules before o)) entry_is
                  (subst (λ (b : Bool). IsIn (event.Abort region index) (if b then made_of rules before (admin_entry before) else [])) z
                  (in-prefix (effects_since (event.Pick seen pick ∷ before)) (made_last rules (event.Pick seen pick ∷ before)) (event.Abort region index) now)) in
                  let b : AbortedBy before v region index = aborted-by before v region index made in
                  elim b.cause [
                    | inr deleted ↦ absurd (let other : DeleteSq b.qid ≡ Abort q cid = sym (delete_command rules.start (table_history rules before) a b.qid deleted) ∙ command in cc other)
                    | inl named ↦
                        let same : Abort b.qid named.0 ≡ Abort q cid = sym (abort_command rules.start (table_history rules before) a b.qid named.0 named.1) ∙ command in
                        let queue : b.qid ≡ q = cc same in
                        let identifier : named.0 ≡ cid = cc same in
                        let waits = in-waits before region index b.waits in
                        let x = at_below (fetched before region) index waits.0 in
                        let first : Earlier (event.Pick seen pick) before = earlier_of (event.Pick seen pick) before refl in
                        record {
                          region = region;
                          index = index;
                          entry = x.0;
                          out = record {
                            own = ap (qid_of_region before) (sym b.region) ∙ region-owned rules before h.1 b.qid b.queue b.is_open ∙ ap (λ (n : ℕ). Some n) queue;
                            is_there = x.1;
                            unposted = false_from_ne_true (is_posted before region index) (λ posted.
                                let done : is_waiting (fate_of before region index) ≡ false =
                                subst (λ (y : Past). is_waiting (fate_of y region index) ≡ false) first.logs (posted_done first.notes first.each region index (ap (λ (y : Past). is_posted y region index) first.logs ∙ posted)) in
                                cc (done, waits.1));
                          };
                          cid_is = aborted_cid before b.qid named.0 region index x.0 (subst (λ (w : Verdict). IsIn (event.Abort region index) (made_by before w)) named.1 made) x.1 ∙ identifier;
                          requested = or_left (region == region && index == index && took_abort (event.Pick seen pick ∷ before)) (is_abort_requested before region index)
                              (and_from (region == region && index == index) (took_abort (event.Pick seen pick ∷ before))
                              (and_from (region == region) (index == index) (eq-eqb region region refl) (eq-eqb index index refl))
                              (took_pick before seen pick a (eqb-true pick.qid 0 z) entry_is ∙ verdict_is_abort rules.start (table_history rules before) a b.qid named.0 named.1));
                        }
                  ]
  found_now [] earlier_of h region index now k taken = cc taken
  found_now (e ∷ before) earlier_of h region index now k taken = cc taken

  pub leaves_abort : (notes : Notes) → EachNote (IsLawful rules) notes → Each (EffectsAtOnce rules) (logged notes) → (region index : ℕ) → EffectsAtOnce rules (logged notes) (event.Abort region index)
      → Leaves rules (logged notes) (event.Abort region index ∷ logged notes)
  leaves_abort notes each effects region index now = record {
    fetched_same = refl;
    posted_same = λ r i. refl;
    outs_before = λ r i q x o. record { own = o.own; is_there = o.is_there; unposted = o.unposted };
    outs_after = λ r i q x o. record { own = o.own; is_there = o.is_there; unposted = o.unposted };
    requested = λ r i h. or_right _ _ h;
    held = λ had r i h. record {
      of_device = h.of_device;
      waits_not = stays (event.Abort region index) (logged notes) r i h.waits_not;
      unaborted = rw (false_from_ne_true (region == r && index == i) (λ here.
          let parts = and_parts (region == r) (index == i) here in
          h.none_due (subst (IsDue rules (logged notes) r) (eqb-true index i parts.1) (subst (λ (z : ℕ). IsDue rules (logged notes) z index) (eqb-true region r parts.0) this)))) h.unaborted;
      none_due = λ d. h.none_due (due_before rules (logged notes) (event.Abort region index) r i d.rest d.all d.among);
    };
    found = λ k h. elim (or_cases (is_index k (just_picked (logged notes))) (has_aborted (logged notes) k) h) [
      | inl here ↦ inr (found_now (logged notes) (λ e before is. earlier notes each e before is) effects region index now k here)
      | inr before ↦ inl before
    ];
  } where
    this : IsDue rules (logged notes) region index
    this = record { rest = event.Abort region index ∷ now.0; all = sym (append_assoc (effects_since (logged notes)) (event.Abort region index ∷ []) now.0) ∙ now.1; among = inl refl }
