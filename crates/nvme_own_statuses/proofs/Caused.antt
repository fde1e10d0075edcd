-- Each abort has its cause, note by note: what an Abort command took was named by one, and what ended with its queue was doomed.
use Rattle.std.proofs.Common.{◌≡◌, ℕ, ◌%◌, ◌<◌, ◌==◌, ◌&&◌, ◌||◌, Bool, true, false, if◌then◌else◌, List, [], ◌∷◌, ◌++◌, length, Option, Some, None, is_some, refl, sym, ap, ◌∙◌, subst, arith, ◌⊎◌, inl, inr, eqb-true, append_assoc}
use Rattle.std.specs.Prelude.{slice_get}
use Rattle.std.proofs.lemmas.Bool.{cases_Bool, cases_eq, eq-eqb, ne_eqb, lt-ltb, or_cases, or_parts, or_left, and_parts, and_from, false_from_ne_true}
use Rattle.std.proofs.lemmas.Option.{none-some, same_Some}
use Rattle.std.proofs.lemmas.List.{length_push}
use Rattle.nvme_entry.specs.AdminCommand.{admin_command_of}
use Rattle.nvme_entry.specs.declared.submission.Sqe.{Sqe}
use Rattle.nvme_entry.specs.declared.completion.Cqe.{Cqe}
use Rattle.nvme_entry.specs.declared.admin.AdminCommand.{AdminCommand}
use Rattle.nvme_entry.specs.declared.admin.AdminCommand.TheVariants.{DeleteSq, Abort}
use Rattle.nvme_arbiter.specs.declared.pick.Pick.{Pick}
use Rattle.nvme_arbiter.specs.declared.pick.Seen.{Seen}
use Rattle.nvme_arbiter.specs.declared.settings.Class.{Class}
use Rattle.nvme_admin.specs.History.{TableHistory}
use Rattle.nvme_admin.specs.Accepted.{verdict_of}
use Rattle.nvme_admin.specs.declared.verdict.Verdict.{Verdict}
use Rattle.nvme_log.specs.declared.event.Event.{Event}
use Rattle.nvme_log.specs.declared.event.Event.TheVariants as event
use Rattle.nvme_log.specs.Rules.{FrontRules, Past}
use Rattle.nvme_log.specs.Queues.{qid_of_region}
use Rattle.nvme_log.specs.Places.{fetched, picked, entry_at, is_aborted}
use Rattle.nvme_log.specs.Histories.{table_history, admin_entry}
use Rattle.nvme_log.specs.Aborts.{is_abort_entry, took_abort, is_abort_requested}
use Rattle.nvme_log.specs.Completions.{is_posted}
use Rattle.nvme_log.specs.Effects.{made_by, made_of, made_last, effects_since}
use Rattle.nvme_log.specs.Laws.{StartsWithAdmin}
use Rattle.nvme_log.proofs.AbortEntries.{verdict_is_abort, verdict_is_delete}
use Rattle.nvme_log.proofs.LoadedRegions.{region-owned}
use Rattle.nvme_log.proofs.LogLengths.{left-none}
use Rattle.nvme_log.proofs.Members.{IsIn}
use Rattle.nvme_log.proofs.Turns.{AbortedBy, aborted-by, in-waits}
use Rattle.nvme_ctrl_log.specs.Notes.{Notes, Note, Logged, Tail, Head, logged}
use Rattle.nvme_ctrl_log.specs.Doorbells.{sq_slots}
use Rattle.nvme_ctrl_log.specs.Making.{placing_in}
use Rattle.nvme_ctrl_log.proofs.AbortRequests.{took_pick, requested_aborted}
use Rattle.nvme_ctrl_log.proofs.TakenCommands.{IsSound}
use Rattle.nvme_audit.specs.Lives as lives
use Rattle.nvme_audit.specs.Lives.{asked}
use Rattle.nvme_audit.specs.Turns.{was_doomed, asks_of, replies_of}
use Rattle.nvme_audit.specs.Aborts.{is_abort, names, was_named}
use Rattle.nvme_own_log.specs.Shown.{fetch_of, shown}
use Rattle.nvme_own_log.proofs.AdminQueues.{effects_of}
use Rattle.nvme_own_log.proofs.AdminTurns.{TakesNext, takes_next}
use Rattle.nvme_own_statuses.proofs.Causes.{new_named, abort_command, delete_command, aborted_cid, doomed_stays, named_stays, delete_shows}
use Rattle.nvme_own_statuses.proofs.Counts.{pending_counts}
use Rattle.nvme_own_log.proofs.IoQueues.{QueuesAt, sound}
use Rattle.nvme_own_statuses.proofs.Outs.{IsOut, out_asked}
use Rattle.nvme_own_log.proofs.OwnRegions.{admin_qid, opens_io}
use Rattle.nvme_own_log.proofs.Phases.{IsPending, opened_fresh}
use Rattle.nvme_own_statuses.proofs.Standing.{Stands, stands_before, io_at}
use Rattle.nvme_own_log.proofs.Agreeing.{get_push}

module _ (rules : FrontRules) where
  -- an abort of a place is still to be made
  pub record IsDue (past : Past) (r i : ℕ) : Type 0 where
    pub rest : List Event
    pub all : effects_since past ++ rest ≡ made_last rules past
    pub among : IsIn (event.Abort r i) rest

  pub none_due : (past : Past) (r i : ℕ) → effects_since past ≡ made_last rules past → IsDue past r i → ⊥
  none_due past r i whole d = subst (IsIn (event.Abort r i)) (left-none (effects_since past) d.rest (made_last rules past) whole d.all) d.among

  -- what is due after an effect was due before
  pub due_before : (past : Past) (e : Event) (r i : ℕ) (rest : List Event) → (effects_since past ++ e ∷ []) ++ rest ≡ made_last rules past → IsIn (event.Abort r i) rest → IsDue past r i
  due_before past e r i rest all among = record { rest = e ∷ rest; all = sym (append_assoc (effects_since past) (e ∷ []) rest) ∙ all; among = inr among }

  -- an Abort named a command, or a Delete named its queue
  abbrev pub IsCaused : Bool → lives.Past → (q cid : ℕ) → Type 0
  IsCaused took log q cid = (took ≡ true → was_named log q cid ≡ true) × (took ≡ false → was_doomed log q ≡ true)

  pub record CausesAt (notes : Notes) : Type 0 where
    pub by_name : (r i q k : ℕ) (x a : Sqe) → IsOut rules (logged notes) r i q x → IsPending rules (logged notes) k a → admin_command_of a ≡ Abort q x.cid → was_named (shown rules notes) q x.cid ≡ true
    pub due_there : (r i : ℕ) → IsDue (logged notes) r i → i < length (fetched (logged notes) r)
    pub due : (r i q : ℕ) (x : Sqe) → IsDue (logged notes) r i → IsOut rules (logged notes) r i q x → IsCaused (took_abort (logged notes)) (shown rules notes) q x.cid
    pub there : (r i : ℕ) → is_aborted (logged notes) r i ≡ true → i < length (fetched (logged notes) r)
    pub aborted : (r i q : ℕ) (x : Sqe) → is_aborted (logged notes) r i ≡ true → IsOut rules (logged notes) r i q x → IsCaused (is_abort_requested (logged notes) r i) (shown rules notes) q x.cid

  module _ (starts : StartsWithAdmin rules) (by_regions : placing_in rules ≡ None) where
    module _ (note : Note) (notes : Notes) (s : Stands rules (note ∷ notes)) where
      before : Stands rules notes
      before = stands_before rules note notes s

      outs : (r i q : ℕ) (x : Sqe) → IsOut rules (logged notes) r i q x → is_some (asked (shown rules notes) q x.cid) ≡ true
      outs r i q x o = ap (λ (c : Option AdminCommand). is_some c) (out_asked rules starts by_regions notes before r i q x o)

      name_stays : (r i q : ℕ) (x : Sqe) → IsOut rules (logged notes) r i q x → was_named (shown rules notes) q x.cid ≡ true → was_named (shown rules (note ∷ notes)) q x.cid ≡ true
      name_stays r i q x o h = named_stays rules note notes q x.cid s (outs r i q x o) h

      cause_stays : (b : Bool) (r i q : ℕ) (x : Sqe) → IsOut rules (logged notes) r i q x → IsCaused b (shown rules notes) q x.cid → IsCaused b (shown rules (note ∷ notes)) q x.cid
      cause_stays b r i q x o c = (λ t. name_stays r i q x o (c.0 t), λ f. doomed_stays rules note notes q (c.1 f))

    -- a doorbell
    at_tail : (r slot : ℕ) (notes : Notes) → Stands rules (Tail r slot ∷ notes) → CausesAt notes → CausesAt (Tail r slot ∷ notes)
    at_tail t slot notes s c = record {
      by_name = λ r i q k x a o p is. name_stays (Tail t slot) notes s r i q x o (c.by_name r i q k x a o p is);
      due_there = λ r i d. c.due_there r i d;
      due = λ r i q x d o. cause_stays (Tail t slot) notes s (took_abort (logged notes)) r i q x o (c.due r i q x d o);
      there = c.there;
      aborted = λ r i q x a o. cause_stays (Tail t slot) notes s (is_abort_requested (logged notes) r i) r i q x o (c.aborted r i q x a o);
    }

    at_head : (h slot : ℕ) (notes : Notes) → Stands rules (Head h slot ∷ notes) → CausesAt notes → CausesAt (Head h slot ∷ notes)
    at_head h slot notes s c = record {
      by_name = λ r i q k x a o p is. name_stays (Head h slot) notes s r i q x o (c.by_name r i q k x a o p is);
      due_there = λ r i d. c.due_there r i d;
      due = λ r i q x d o. cause_stays (Head h slot) notes s (took_abort (logged notes)) r i q x o (c.due r i q x d o);
      there = c.there;
      aborted = λ r i q x a o. cause_stays (Head h slot) notes s (is_abort_requested (logged notes) r i) r i q x o (c.aborted r i q x a o);
    }

    -- a fetch
    at_fetch : (t j : ℕ) (entry : Sqe) (notes : Notes) → Stands rules (Logged (event.Fetch t j entry) ∷ notes) → CausesAt notes → CausesAt (Logged (event.Fetch t j entry) ∷ notes)
    at_fetch t j entry notes s c = record {
      by_name = by_name;
      due_there = λ r i d. absurd (none_due (logged notes) r i s.each.0.effects_at_once (record { rest = d.rest; all = d.all; among = d.among }));
      due = λ r i q x d o. absurd (none_due (logged notes) r i s.each.0.effects_at_once (record { rest = d.rest; all = d.all; among = d.among }));
      there = λ r i a. longer r i (c.there r i a);
      aborted = λ r i q x a o. elim (split r i x o.is_there) [
        | inl earlier ↦
            let old : IsOut rules (logged notes) r i q x = record { own = o.own; is_there = earlier; unposted = o.unposted } in
            cause_stays (Logged (event.Fetch t j entry)) notes s (is_abort_requested (logged notes) r i) r i q x old (c.aborted r i q x a old)
        | inr last ↦ absurd (let few = c.there r i a in omega (arith, few, last.1))
      ];
    } where
      now : Stands rules notes
      now = stands_before rules (Logged (event.Fetch t j entry)) notes s

      longer : (r i : ℕ) → i < length (fetched (logged notes) r) → i < length (fetched (event.Fetch t j entry ∷ logged notes) r)
      longer r i lt = by (t == r) where
        by : (b : Bool) → i < length (if b then fetched (logged notes) r ++ entry ∷ [] else fetched (logged notes) r)
        by true = omega (arith, lt, length_push (fetched (logged notes) r) entry)
        by false = lt

      split : (r i : ℕ) (x : Sqe) → entry_at (event.Fetch t j entry ∷ logged notes) r i ≡ Some x → (entry_at (logged notes) r i ≡ Some x) ⊎ ((t ≡ r) × (i ≡ length (fetched (logged notes) r)) × (entry ≡ x))
      split r i x at = elim (cases_eq t r) [
        | inl same ↦ elim (get_push (fetched (logged notes) r) entry i x (subst (λ (b : Bool). slice_get (if b then fetched (logged notes) r ++ entry ∷ [] else fetched (logged notes) r) i ≡ Some x) (eq-eqb t r same) at)) [
          | inl earlier ↦ inl earlier
          | inr last ↦ inr (same, last.0, last.1)
        ]
        | inr other ↦ inl (subst (λ (b : Bool). slice_get (if b then fetched (logged notes) r ++ entry ∷ [] else fetched (logged notes) r) i ≡ Some x) (ne_eqb t r other) at)
      ]

      -- an Abort that is fetched names its command
      new_abort : (q cid : ℕ) → t ≡ 0 → admin_command_of entry ≡ Abort q cid → was_named (fetch_of (qid_of_region (logged notes) t) (j % sq_slots rules t) entry (shown rules notes)) q cid ≡ true
      new_abort q cid z is =
          let own : qid_of_region (logged notes) t ≡ Some 0 = ap (qid_of_region (logged notes)) z ∙ admin_qid rules (logged notes) (effects_of rules notes now.each) in
          subst (λ (o : Option ℕ). was_named (fetch_of o (j % sq_slots rules t) entry (shown rules notes)) q cid ≡ true) (sym own)
          (or_left _ _ (ap (λ (k : AdminCommand). names k q cid) is ∙ rw (eq-eqb q q refl, eq-eqb cid cid refl) refl))

      -- a command that is fetched while one is pending
      new_command : (q k : ℕ) (x a : Sqe) → qid_of_region (logged notes) t ≡ Some q → entry ≡ x → IsPending rules (logged notes) k a → admin_command_of a ≡ Abort q x.cid
          → was_named (fetch_of (qid_of_region (logged notes) t) (j % sq_slots rules t) entry (shown rules notes)) q x.cid ≡ true
      new_command q k x a own same p is =
          let few : replies_of is_abort (shown rules notes) < asks_of is_abort (shown rules notes) = pending_counts rules is_abort refl notes now k a p (ap is_abort is) in
          subst (λ (o : Option ℕ). was_named (fetch_of o (j % sq_slots rules t) entry (shown rules notes)) q x.cid ≡ true) (sym own)
          (new_named _ (q == q && entry.cid == x.cid) _ _ (and_from (q == q) (entry.cid == x.cid) (eq-eqb q q refl) (eq-eqb entry.cid x.cid (ap (λ (y : Sqe). y.cid) same))) (lt-ltb (replies_of is_abort (shown rules notes)) (asks_of is_abort (shown rules notes)) few))

      by_name : (r i q k : ℕ) (x a : Sqe) → IsOut rules (event.Fetch t j entry ∷ logged notes) r i q x → IsPending rules (event.Fetch t j entry ∷ logged notes) k a → admin_command_of a ≡ Abort q x.cid
          → was_named (fetch_of (qid_of_region (logged notes) t) (j % sq_slots rules t) entry (shown rules notes)) q x.cid ≡ true
      by_name r i q k x a o p is = elim (split 0 k a p.0) [
        | inr mine ↦ new_abort q x.cid mine.0 (ap (λ (y : Sqe). admin_command_of y) mine.2 ∙ is)
        | inl old ↦ elim (split r i x o.is_there) [
          | inl earlier ↦
              let out : IsOut rules (logged notes) r i q x = record { own = o.own; is_there = earlier; unposted = o.unposted } in
              name_stays (Logged (event.Fetch t j entry)) notes s r i q x out (c.by_name r i q k x a out (old, p.1) is)
          | inr last ↦ new_command q k x a (ap (qid_of_region (logged notes)) last.0 ∙ o.own) last.2 (old, p.1) is
        ]
      ]

    -- a pick: what its command aborts waits
    module _ (seen : List Seen) (pick : Pick) (notes : Notes) (s : Stands rules (Logged (event.Pick seen pick) ∷ notes)) (c : CausesAt notes) where
      abbrev past : Past
      past = logged notes

      abbrev now : Stands rules notes
      now = stands_before rules (Logged (event.Pick seen pick)) notes s

      out : (r i q : ℕ) (x : Sqe) → IsOut rules (event.Pick seen pick ∷ past) r i q x → IsOut rules past r i q x
      out r i q x o = record { own = o.own; is_there = o.is_there; unposted = o.unposted }

      is_sound : IsSound rules (event.Pick seen pick ∷ past)
      is_sound = sound rules starts by_regions (Logged (event.Pick seen pick) ∷ notes) s.each s.lawful

      none : (pick.qid ≡ 0 → ⊥) → (r i : ℕ) → IsDue (event.Pick seen pick ∷ past) r i → ⊥
      none io r i d = subst (λ (b : Bool). IsIn (event.Abort r i) (if b then made_of rules past (admin_entry past) else [])) (ne_eqb pick.qid 0 io) (subst (IsIn (event.Abort r i)) d.all d.among)

      abbrev table : TableHistory
      table = table_history rules past

      module _ (z : pick.qid ≡ 0) where
        abbrev next : TakesNext rules past seen pick
        next = takes_next rules past seen pick is_sound z

        abbrev verdict_here : Verdict
        verdict_here = verdict_of rules.start table next.entry

        made_so : (r i : ℕ) → IsDue (event.Pick seen pick ∷ past) r i → IsIn (event.Abort r i) (made_by past verdict_here)
        made_so r i d =
            subst (λ (o : Option Sqe). IsIn (event.Abort r i) (made_of rules past o)) next.entry_is
            (subst (λ (b : Bool). IsIn (event.Abort r i) (if b then made_of rules past (admin_entry past) else [])) (eq-eqb pick.qid 0 z) (subst (IsIn (event.Abort r i)) d.all d.among))

        by : (r i : ℕ) → IsDue (event.Pick seen pick ∷ past) r i → AbortedBy past verdict_here r i
        by r i d = aborted-by past verdict_here r i (made_so r i d)

        took_is : took_abort (event.Pick seen pick ∷ past) ≡ is_abort_entry (Some next.entry)
        took_is = took_pick past seen pick next.entry z next.entry_is

        unposted : is_posted past 0 (picked past 0) ≡ false
        unposted = false_from_ne_true (is_posted past 0 (picked past 0)) (λ p. let few = (io_at rules starts by_regions notes now).picked_posts (picked past 0) p in absurd (omega (arith, few)))

        caused : (r i q : ℕ) (x : Sqe) → IsDue (event.Pick seen pick ∷ past) r i → IsOut rules past r i q x → IsCaused (took_abort (event.Pick seen pick ∷ past)) (shown rules notes) q x.cid
        caused r i q x d o =
            let b = by r i d in
            let same : b.qid ≡ q = same_Some b.qid q (sym (region-owned rules past (effects_of rules notes now.each) b.qid b.queue b.is_open) ∙ ap (qid_of_region past) b.region ∙ o.own) in
            elim b.cause [
              | inl named ↦
                  let took : took_abort (event.Pick seen pick ∷ past) ≡ true = took_is ∙ verdict_is_abort rules.start table next.entry b.qid named.0 named.1 in
                  let cid : x.cid ≡ named.0 = aborted_cid past b.qid named.0 r i x (subst (λ (v : Verdict). IsIn (event.Abort r i) (made_by past v)) named.1 (made_so r i d)) o.is_there in
                  let command : admin_command_of next.entry ≡ Abort q x.cid = abort_command rules.start table next.entry b.qid named.0 named.1 ∙ (λ t. Abort (same t) (sym cid t)) in
                  (λ t. c.by_name r i q (picked past 0) x next.entry o (next.is_there, unposted) command, λ f. cc (took, f))
              | inr deleted ↦
                  let took : took_abort (event.Pick seen pick ∷ past) ≡ false = took_is ∙ verdict_is_delete rules.start table next.entry b.qid deleted in
                  let command : admin_command_of next.entry ≡ DeleteSq q = delete_command rules.start table next.entry b.qid deleted ∙ ap (λ (n : ℕ). DeleteSq n) same in
                  (λ t. cc (took, t), λ f. delete_shows rules notes now (picked past 0) q next.entry next.is_there command)
            ]

      at_pick : CausesAt (Logged (event.Pick seen pick) ∷ notes)
      at_pick = record {
        by_name = λ r i q k x a o p is. c.by_name r i q k x a (out r i q x o) p is;
        due_there = λ r i d. elim (cases_eq pick.qid 0) [
          | inl z ↦ (in-waits past r i (by z r i d).waits).0
          | inr io ↦ absurd (none io r i d)
        ];
        due = λ r i q x d o. elim (cases_eq pick.qid 0) [
          | inl z ↦ caused z r i q x d (out r i q x o)
          | inr io ↦ absurd (none io r i d)
        ];
        there = c.there;
        aborted = λ r i q x a o. c.aborted r i q x a (out r i q x o);
      }

    -- an effect that opens no submission queue and aborts none
    abbrev IsLeaving : Event → Type 0
    IsLeaving (event.SetArbitration settings) = Unit {0}
    IsLeaving (event.OpenCq qid region) = Unit {0}
    IsLeaving (event.Closing qid region) = Unit {0}
    IsLeaving (event.ClosedCq qid region) = Unit {0}
    IsLeaving e = ⊥

    at_leaving : (e : Event) (notes : Notes) → IsLeaving e → CausesAt notes → CausesAt (Logged e ∷ notes)
    at_leaving (event.Fetch t j entry) notes l c = absurd l
    at_leaving (event.Pick seen pick) notes l c = absurd l
    at_leaving (event.OpenSq qid region cqid class) notes l c = absurd l
    at_leaving (event.Abort region index) notes l c = absurd l
    at_leaving (event.Post b t j cqe) notes l c = absurd l
    at_leaving (event.ClosedSq qid region) notes l c = absurd l
    at_leaving e notes l c = record {
      by_name = λ r i q k x a o p is. c.by_name r i q k x a (record { own = o.own; is_there = o.is_there; unposted = o.unposted }) p is;
      due_there = λ r i d. c.due_there r i (due_before (logged notes) e r i d.rest d.all d.among);
      due = λ r i q x d o. c.due r i q x (due_before (logged notes) e r i d.rest d.all d.among) (record { own = o.own; is_there = o.is_there; unposted = o.unposted });
      there = c.there;
      aborted = λ r i q x a o. c.aborted r i q x a (record { own = o.own; is_there = o.is_there; unposted = o.unposted });
    }

    -- a queue is opened on a fresh region
    at_open : (qid region cqid : ℕ) (class : Class) (notes : Notes) → Stands rules (Logged (event.OpenSq qid region cqid class) ∷ notes) → CausesAt notes → CausesAt (Logged (event.OpenSq qid region cqid class) ∷ notes)
    at_open qid region cqid class notes s c = record {
      by_name = λ r i q k x a o p is. c.by_name r i q k x a (out r i q x o) p is;
      due_there = λ r i d. c.due_there r i (due_before (logged notes) (event.OpenSq qid region cqid class) r i d.rest d.all d.among);
      due = λ r i q x d o. c.due r i q x (due_before (logged notes) (event.OpenSq qid region cqid class) r i d.rest d.all d.among) (out r i q x o);
      there = c.there;
      aborted = λ r i q x a o. c.aborted r i q x a (out r i q x o);
    } where
      at : QueuesAt rules notes
      at = io_at rules starts by_regions notes (stands_before rules (Logged (event.OpenSq qid region cqid class)) notes s)

      fresh : qid_of_region (logged notes) region ≡ None
      fresh = let x = at.queue qid (opens_io rules (logged notes) qid region cqid class s.each.0.effects_at_once) in (opened_fresh rules (logged notes) qid region cqid class x.stage s.each.0.effects_at_once x.phase).0

      out : (r i q : ℕ) (x : Sqe) → IsOut rules (event.OpenSq qid region cqid class ∷ logged notes) r i q x → IsOut rules (logged notes) r i q x
      out r i q x o = elim (cases_eq region r) [
        | inl same ↦ absurd (none-some x (ap (λ (xs : List Sqe). slice_get xs i) (sym (at.untouched region fresh).1) ∙ ap (λ (z : ℕ). entry_at (logged notes) z i) same ∙ o.is_there))
        | inr other ↦ record { own = subst (λ (b : Bool). (if b then Some qid else qid_of_region (logged notes) r) ≡ Some q) (ne_eqb region r other) o.own; is_there = o.is_there; unposted = o.unposted }
      ]

    -- an abort
    at_abort : (region index : ℕ) (notes : Notes) → Stands rules (Logged (event.Abort region index) ∷ notes) → CausesAt notes → CausesAt (Logged (event.Abort region index) ∷ notes)
    at_abort region index notes s c = record {
      by_name = λ r i q k x a o p is. c.by_name r i q k x a (out r i q x o) p is;
      due_there = λ r i d. c.due_there r i (due_before (logged notes) (event.Abort region index) r i d.rest d.all d.among);
      due = λ r i q x d o. c.due r i q x (due_before (logged notes) (event.Abort region index) r i d.rest d.all d.among) (out r i q x o);
      there = λ r i a. elim (or_cases (region == r && index == i) (is_aborted (logged notes) r i) a) [
        | inl here ↦
            let parts = and_parts (region == r) (index == i) here in
            subst (λ (z : ℕ). i < length (fetched (logged notes) z)) (eqb-true region r parts.0) (subst (λ (z : ℕ). z < length (fetched (logged notes) region)) (eqb-true index i parts.1) (c.due_there region index this))
        | inr earlier ↦ c.there r i earlier
      ];
      aborted = λ r i q x a o. elim (cases_Bool (region == r && index == i)) [
        | inl here ↦ subst (λ (b : Bool). IsCaused ((b && took_abort (logged notes)) || is_abort_requested (logged notes) r i) (shown rules notes) q x.cid) (sym here) (mine r i q x here (out r i q x o))
        | inr other ↦
            subst (λ (b : Bool). IsCaused ((b && took_abort (logged notes)) || is_abort_requested (logged notes) r i) (shown rules notes) q x.cid) (sym other)
            (c.aborted r i q x (subst (λ (b : Bool). (b || is_aborted (logged notes) r i) ≡ true) other a) (out r i q x o))
      ];
    } where
      out : (r i q : ℕ) (x : Sqe) → IsOut rules (event.Abort region index ∷ logged notes) r i q x → IsOut rules (logged notes) r i q x
      out r i q x o = record { own = o.own; is_there = o.is_there; unposted = o.unposted }

      this : IsDue (logged notes) region index
      this =
          let h = s.each.0.effects_at_once in
          record { rest = event.Abort region index ∷ h.0; all = sym (append_assoc (effects_since (logged notes)) (event.Abort region index ∷ []) h.0) ∙ h.1; among = inl refl }

      either : (took asked : Bool) (log : lives.Past) (q cid : ℕ) → IsCaused took log q cid → (asked ≡ true → was_named log q cid ≡ true) → IsCaused (took || asked) log q cid
      either true asked log q cid now named = (λ t. now.0 refl, λ f. cc f)
      either false asked log q cid now named = (named, λ f. now.1 refl)

      mine : (r i q : ℕ) (x : Sqe) → (region == r && index == i) ≡ true → IsOut rules (logged notes) r i q x → IsCaused (took_abort (logged notes) || is_abort_requested (logged notes) r i) (shown rules notes) q x.cid
      mine r i q x here o =
          let parts = and_parts (region == r) (index == i) here in
          let due : IsDue (logged notes) r i = subst (IsDue (logged notes) r) (eqb-true index i parts.1) (subst (λ (z : ℕ). IsDue (logged notes) z index) (eqb-true region r parts.0) this) in
          either (took_abort (logged notes)) (is_abort_requested (logged notes) r i) (shown rules notes) q x.cid (c.due r i q x due o) (λ t. (c.aborted r i q x (requested_aborted (logged notes) r i t) o).0 t)

    -- a completion
    at_post : (b t j : ℕ) (cqe : Cqe) (notes : Notes) → Stands rules (Logged (event.Post b t j cqe) ∷ notes) → CausesAt notes → CausesAt (Logged (event.Post b t j cqe) ∷ notes)
    at_post b t j cqe notes s c = record {
      by_name = λ r i q k x a o p is. name_stays (Logged (event.Post b t j cqe)) notes s r i q x (out r i q x o) (c.by_name r i q k x a (out r i q x o) (p.0, (or_parts (t == 0 && j == k) (is_posted (logged notes) 0 k) p.1).1) is);
      due_there = λ r i d. absurd (none_due (logged notes) r i s.each.0.effects_at_once (record { rest = d.rest; all = d.all; among = d.among }));
      due = λ r i q x d o. absurd (none_due (logged notes) r i s.each.0.effects_at_once (record { rest = d.rest; all = d.all; among = d.among }));
      there = c.there;
      aborted = λ r i q x a o. cause_stays (Logged (event.Post b t j cqe)) notes s (is_abort_requested (logged notes) r i) r i q x (out r i q x o) (c.aborted r i q x a (out r i q x o));
    } where
      out : (r i q : ℕ) (x : Sqe) → IsOut rules (event.Post b t j cqe ∷ logged notes) r i q x → IsOut rules (logged notes) r i q x
      out r i q x o = record { own = o.own; is_there = o.is_there; unposted = (or_parts (t == r && j == i) (is_posted (logged notes) r i) o.unposted).1 }

    -- the end of a deletion
    at_closed : (qid region : ℕ) (notes : Notes) → Stands rules (Logged (event.ClosedSq qid region) ∷ notes) → CausesAt notes → CausesAt (Logged (event.ClosedSq qid region) ∷ notes)
    at_closed qid region notes s c = record {
      by_name = λ r i q k x a o p is. c.by_name r i q k x a (record { own = o.own; is_there = o.is_there; unposted = o.unposted }) p is;
      due_there = λ r i d. absurd (none_due (logged notes) r i s.each.0.effects_at_once (record { rest = d.rest; all = d.all; among = d.among }));
      due = λ r i q x d o. absurd (none_due (logged notes) r i s.each.0.effects_at_once (record { rest = d.rest; all = d.all; among = d.among }));
      there = c.there;
      aborted = λ r i q x a o. c.aborted r i q x a (record { own = o.own; is_there = o.is_there; unposted = o.unposted });
    }

    pub causes_at : (notes : Notes) → Stands rules notes → CausesAt notes
    causes_at [] s = record {
      by_name = λ r i q k x a o p is. absurd (none-some x o.is_there);
      due_there = λ r i d. absurd (none_due [] r i refl d);
      due = λ r i q x d o. absurd (none-some x o.is_there);
      there = λ r i a. cc a;
      aborted = λ r i q x a o. absurd (none-some x o.is_there);
    }
    causes_at (Tail r slot ∷ notes) s = at_tail r slot notes s (causes_at notes (stands_before rules (Tail r slot) notes s))
    causes_at (Head c slot ∷ notes) s = at_head c slot notes s (causes_at notes (stands_before rules (Head c slot) notes s))
    causes_at (Logged (event.Fetch r i entry) ∷ notes) s = at_fetch r i entry notes s (causes_at notes (stands_before rules (Logged (event.Fetch r i entry)) notes s))
    causes_at (Logged (event.Pick seen pick) ∷ notes) s = at_pick seen pick notes s (causes_at notes (stands_before rules (Logged (event.Pick seen pick)) notes s))
    causes_at (Logged (event.OpenSq q r c k) ∷ notes) s = at_open q r c k notes s (causes_at notes (stands_before rules (Logged (event.OpenSq q r c k)) notes s))
    causes_at (Logged (event.Abort r i) ∷ notes) s = at_abort r i notes s (causes_at notes (stands_before rules (Logged (event.Abort r i)) notes s))
    causes_at (Logged (event.Post c r i cqe) ∷ notes) s = at_post c r i cqe notes s (causes_at notes (stands_before rules (Logged (event.Post c r i cqe)) notes s))
    causes_at (Logged (event.ClosedSq q r) ∷ notes) s = at_closed q r notes s (causes_at notes (stands_before rules (Logged (event.ClosedSq q r)) notes s))
    causes_at (Logged (event.SetArbitration settings) ∷ notes) s = at_leaving (event.SetArbitration settings) notes tt (causes_at notes (stands_before rules (Logged (event.SetArbitration settings)) notes s))
    causes_at (Logged (event.OpenCq q r) ∷ notes) s = at_leaving (event.OpenCq q r) notes tt (causes_at notes (stands_before rules (Logged (event.OpenCq q r)) notes s))
    causes_at (Logged (event.Closing q r) ∷ notes) s = at_leaving (event.Closing q r) notes tt (causes_at notes (stands_before rules (Logged (event.Closing q r)) notes s))
    causes_at (Logged (event.ClosedCq q r) ∷ notes) s = at_leaving (event.ClosedCq q r) notes tt (causes_at notes (stands_before rules (Logged (event.ClosedCq q r)) notes s))
    causes_at (note ∷ notes) s = let c = causes_at notes (stands_before rules note notes s) in record { by_name = c.by_name; due_there = c.due_there; due = c.due; there = c.there; aborted = c.aborted }
