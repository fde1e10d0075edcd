-- What completions of Aborts say of other commands, note by note.
use Rattle.std.proofs.Common.{◌≡◌, ℕ, ◌%◌, ◌<◌, ◌≤◌, ◌==◌, ◌&&◌, ◌||◌, Bool, true, false, not, if◌then◌else◌, [], ◌∷◌, ◌++◌, length, Option, Some, None, is_some, refl, sym, ap, ◌∙◌, subst, arith, ◌⊎◌, inl, inr, eqb-true}
use Rattle.std.specs.Prelude.{slice_get}
use Rattle.std.proofs.lemmas.Bool.{cases_Bool, cases_eq, eq-eqb, ne_eqb, or_cases, or_parts, and_parts, and_from, false_from_ne_true}
use Rattle.std.proofs.lemmas.Option.{none-some, same_Some}
use Rattle.std.proofs.lemmas.List.{length_push}
use Rattle.nvme_entry.specs.Status.{abort_requested, aborted_by_deletion}
use Rattle.nvme_entry.specs.AdminCommand.{admin_command_of}
use Rattle.nvme_entry.specs.declared.submission.Sqe.{Sqe}
use Rattle.nvme_entry.specs.declared.completion.Cqe.{Cqe}
use Rattle.nvme_entry.specs.declared.admin.AdminCommand.{AdminCommand}
use Rattle.nvme_entry.specs.declared.admin.AdminCommand.TheVariants.{Abort, Other}
use Rattle.nvme_admin.specs.History.{Start, TableHistory, EntryApplied}
use Rattle.nvme_admin.specs.Checks.{verdict_by}
use Rattle.nvme_admin.specs.Accepted.{queue_table, status_of, dw0_of, verdict_of}
use Rattle.nvme_admin.specs.declared.verdict.Verdict.{Verdict}
use Rattle.nvme_admin.specs.declared.verdict.Verdict.TheVariants as verdict
use Rattle.nvme_log.specs.declared.event.Event.TheVariants as event
use Rattle.nvme_log.specs.Rules.{FrontRules, Past}
use Rattle.nvme_log.specs.Queues.{open_cq, qid_of_region, cq_region_of}
use Rattle.nvme_log.specs.Places.{fetched, entry_at, fate_of, is_waiting, is_aborted}
use Rattle.nvme_log.specs.Aborts.{has_aborted, is_abort_requested, told_dw0}
use Rattle.nvme_log.specs.Completions.{is_posted, posted_to, table_before}
use Rattle.nvme_log.specs.Effects.{effects_since, made_last}
use Rattle.nvme_log.specs.Laws.{StartsWithAdmin}
use Rattle.nvme_log.proofs.AbortAnswers.{entry-stays}
use Rattle.nvme_log.proofs.Turns.{admin-unaborted}
use Rattle.nvme_ctrl_log.specs.Notes.{Notes, Logged, Tail, Head, Passed, logged}
use Rattle.nvme_ctrl_log.specs.Doorbells.{sq_slots, cq_slots}
use Rattle.nvme_ctrl_log.specs.Tags.{is_passed, is_of_device}
use Rattle.nvme_ctrl_log.specs.Making.{placing_in}
use Rattle.nvme_ctrl_log.proofs.AbortRequests.{requested_aborted}
use Rattle.nvme_audit.specs.Lives as lives
use Rattle.nvme_audit.specs.Lives.{asked, is_success}
use Rattle.nvme_audit.specs.Turns.{answered, answered_by, sq_named}
use Rattle.nvme_audit.specs.Aborts as aborts
use Rattle.nvme_audit.specs.Aborts.{names, stirred, says_aborted, told_of}
use Rattle.nvme_audit.specs.Marks.{mark_for, mark_of, mark_if, owes}
use Rattle.nvme_own_log.specs.Shown.{cqid_of_region, start_of, completion_of, tail_of, head_of, fetch_of, post_of, shown}
use Rattle.nvme_own_log.specs.Duties.{KeepsDuties}
use Rattle.nvme_own_statuses.specs.Statuses.{is_given, is_had, TakesOwn, DeviceTakesOwn}
use Rattle.nvme_own_log.proofs.AdminQueues.{effects_of}
use Rattle.nvme_own_log.proofs.Answered.{IsPosted, posted_so}
use Rattle.nvme_own_statuses.proofs.Caused.{none_due}
use Rattle.nvme_own_statuses.proofs.Outs.{IsOut, out_asked, out_same, posted_out, posted_asked}
use Rattle.nvme_own_log.proofs.OwnRegions.{admin_qid, admin_region, opens_io}
use Rattle.nvme_own_log.proofs.Phases.{IsPending, opened_fresh}
use Rattle.nvme_own_statuses.proofs.Standing.{Stands, stands_before, io_at}
use Rattle.nvme_own_statuses.proofs.StatusBy.{StatusBy, by_device, by_abort, by_checks, status_by}
use Rattle.nvme_own_statuses.proofs.Tells.{has_passed, had_by, passed_some, IsTaken, IsHeld, TellsAt, tells_tail, tells_head, tells_more, tells_later, names_is, stirred_grows, stirred_more}
use Rattle.nvme_own_statuses.proofs.TellsSteps.{leaves_effect, leaves_closed, leaves_open, leaves_pick, leaves_abort}
use Rattle.nvme_own_log.proofs.Agreeing.{get_push}

-- the verdict on an Abort that is accepted
abort_verdict : (start : Start) (h : TableHistory) (entry : Sqe) (q cid : ℕ) → admin_command_of entry ≡ Abort q cid → is_success (status_of start h entry) ≡ true → verdict_of start h entry ≡ verdict.Abort q cid
unfolding verdict_of
abort_verdict start h entry q cid is success = ap (verdict_by (status_of start h entry) (queue_table start (EntryApplied entry ∷ h))) is ∙ rw success refl

says_one : (b : Bool) → says_aborted (Some (if b then 0 else 1)) ≡ true → b ≡ true
says_one true h = refl
says_one false h = cc h

-- a completion region that completions go to was opened
cqid_there : (past : Past) (p c : ℕ) → open_cq past p ≡ Some c → (q : ℕ) × (cqid_of_region past c ≡ Some q)
cqid_there [] p c is = by (p == 0) is where
  by : (b : Bool) → (if b then Some 0 else None) ≡ Some c → (q : ℕ) × ((if c == 0 then Some 0 else None) ≡ Some q)
  by true e = (0, rw (eq-eqb c 0 (sym (same_Some 0 c e))) refl)
  by false e = absurd (none-some c e)
cqid_there (event.OpenCq qid region ∷ past) p c is = elim (cases_eq region c) [
  | inl same ↦ (qid, rw (eq-eqb region c same) refl)
  | inr other ↦ (let it = earlier other (qid == p) is (cqid_there past p c) in (it.0, rw (ne_eqb region c other) it.1))
] where
  earlier : (region ≡ c → ⊥) → (b : Bool) → (if b then Some region else open_cq past p) ≡ Some c → (open_cq past p ≡ Some c → (q : ℕ) × (cqid_of_region past c ≡ Some q)) → (q : ℕ) × (cqid_of_region past c ≡ Some q)
  earlier other true e f = absurd (other (same_Some region c e))
  earlier other false e f = f e
cqid_there (event.ClosedCq qid region ∷ past) p c is = by (qid == p) is (cqid_there past p c) where
  by : (b : Bool) → (if b then None else open_cq past p) ≡ Some c → (open_cq past p ≡ Some c → (q : ℕ) × (cqid_of_region past c ≡ Some q)) → (q : ℕ) × (cqid_of_region past c ≡ Some q)
  by true e f = absurd (none-some c e)
  by false e f = f e
cqid_there (e ∷ past) p c is = cqid_there past p c is

pub posts_there : (past : Past) (r c : ℕ) → cq_region_of past r ≡ Some c → (q : ℕ) × (cqid_of_region past c ≡ Some q)
posts_there [] r c is = by (r == 0) is where
  by : (b : Bool) → (if b then Some 0 else None) ≡ Some c → (q : ℕ) × ((if c == 0 then Some 0 else None) ≡ Some q)
  by true e = (0, rw (eq-eqb c 0 (sym (same_Some 0 c e))) refl)
  by false e = absurd (none-some c e)
posts_there (event.OpenSq qid region cqid class ∷ past) r c is = by (region == r) is (posts_there past r c) where
  by : (b : Bool) → (if b then open_cq past cqid else cq_region_of past r) ≡ Some c → (cq_region_of past r ≡ Some c → (q : ℕ) × (cqid_of_region past c ≡ Some q)) → (q : ℕ) × (cqid_of_region past c ≡ Some q)
  by true e f = cqid_there past cqid c e
  by false e f = f e
posts_there (event.OpenCq qid region ∷ past) r c is = elim (cases_eq region c) [
  | inl same ↦ (qid, rw (eq-eqb region c same) refl)
  | inr other ↦ (let it = posts_there past r c is in (it.0, rw (ne_eqb region c other) it.1))
]
posts_there (e ∷ past) r c is = posts_there past r c is

module _ (rules : FrontRules) (starts : StartsWithAdmin rules) (by_regions : placing_in rules ≡ None) where
  -- ---- a fetch
  module _ (t j : ℕ) (entry : Sqe) (notes : Notes) (s : Stands rules (Logged (event.Fetch t j entry) ∷ notes)) where
    abbrev past : Past
    past = logged notes

    abbrev log : lives.Past
    log = shown rules notes

    abbrev now : Stands rules notes
    now = stands_before rules (Logged (event.Fetch t j entry)) notes s

    whole : effects_since past ≡ made_last rules past
    whole = s.each.0.effects_at_once

    abbrev pub after : Option ℕ → lives.Past
    after o = fetch_of o (j % sq_slots rules t) entry log

    -- no outstanding command has the name
    abbrev pub IsFree : Option ℕ → Type 0
    IsFree None = Unit {0}
    IsFree (Some p) = is_some (asked log p entry.cid) ≡ false

    pub free : IsFree (qid_of_region past t)
    free = by (qid_of_region past t) s.duties where
      by : (o : Option ℕ) → KeepsDuties (start_of rules) (after o) → IsFree o
      by None d = tt
      by (Some p) d = d.0.0

    apart : (p r i q : ℕ) (x : Sqe) → IsOut rules past r i q x → IsFree (Some p) → (p == q && entry.cid == x.cid) ≡ false
    apart p r i q x o f = false_from_ne_true (p == q && entry.cid == x.cid) (λ same.
        let parts = and_parts (p == q) (entry.cid == x.cid) same in
        let none : is_some (asked log q x.cid) ≡ false = subst (λ (z : ℕ). is_some (asked log z x.cid) ≡ false) (eqb-true p q parts.0) (subst (λ (z : ℕ). is_some (asked log p z) ≡ false) (eqb-true entry.cid x.cid parts.1) f) in
        let some : is_some (asked log q x.cid) ≡ true = ap (λ (c : Option AdminCommand). is_some c) (out_asked rules starts by_regions notes now r i q x o) in
        cc (none, some))

    pub marks_same : (r i q : ℕ) (x : Sqe) → IsOut rules past r i q x → (o : Option ℕ) → IsFree o → mark_of (after o) q x.cid ≡ mark_of log q x.cid
    marks_same r i q x out None f = refl
    marks_same r i q x out (Some p) f = rw (apart p r i q x out f) refl

    owes_same : (r i q : ℕ) (x : Sqe) → IsOut rules past r i q x → (o : Option ℕ) → IsFree o → owes (after o) q x.cid ≡ owes log q x.cid
    owes_same r i q x out None f = refl
    owes_same r i q x out (Some p) f = rw (apart p r i q x out f) refl

    stirred_same : (q : ℕ) (o : Option ℕ) → stirred (after o) q ≡ stirred log q
    stirred_same q None = refl
    stirred_same q (Some p) = refl

    pub split : (r i : ℕ) (x : Sqe) → entry_at (event.Fetch t j entry ∷ past) r i ≡ Some x → (entry_at past r i ≡ Some x) ⊎ ((t ≡ r) × (i ≡ length (fetched past r)) × (entry ≡ x))
    split r i x at = elim (cases_eq t r) [
      | inl same ↦ elim (get_push (fetched past r) entry i x (subst (λ (b : Bool). slice_get (if b then fetched past r ++ entry ∷ [] else fetched past r) i ≡ Some x) (eq-eqb t r same) at)) [
        | inl earlier ↦ inl earlier
        | inr last ↦ inr (same, last.0, last.1)
      ]
      | inr other ↦ inl (subst (λ (b : Bool). slice_get (if b then fetched past r ++ entry ∷ [] else fetched past r) i ≡ Some x) (ne_eqb t r other) at)
    ]

    longer : (k : ℕ) → k < length (fetched past 0) → k < length (fetched (event.Fetch t j entry ∷ past) 0)
    longer k lt = by (t == 0) where
      by : (b : Bool) → k < length (if b then fetched past 0 ++ entry ∷ [] else fetched past 0)
      by true = omega (arith, lt, length_push (fetched past 0) entry)
      by false = lt

    out_later : (r i q : ℕ) (x : Sqe) → IsOut rules past r i q x → IsOut rules (event.Fetch t j entry ∷ past) r i q x
    out_later r i q x o = record { own = o.own; is_there = by (t == r); unposted = o.unposted } where
      by : (b : Bool) → slice_get (if b then fetched past r ++ entry ∷ [] else fetched past r) i ≡ Some x
      by true = entry-stays (fetched past r) (entry ∷ []) i x o.is_there
      by false = o.is_there

    admin_out : (k : ℕ) (a : Sqe) → IsPending rules past k a → IsOut rules past 0 k 0 a
    admin_out k a p = record { own = admin_qid rules past (effects_of rules notes now.each); is_there = p.0; unposted = p.1 }

    shows_as : (q : ℕ) → t ≡ q → qid_of_region past t ≡ qid_of_region past q
    shows_as q same = ap (qid_of_region past) same

    -- at its fetch an Abort is marked with what was stirred
    low_new : (q cid : ℕ) (a : Sqe) → t ≡ 0 → entry ≡ a → admin_command_of a ≡ Abort q cid → mark_of (after (qid_of_region past t)) 0 a.cid ≤ stirred (after (qid_of_region past t)) q
    low_new q cid a z same is =
        let own : qid_of_region past t ≡ Some 0 = shows_as 0 z ∙ admin_qid rules past (effects_of rules notes now.each) in
        let mark : mark_of (after (Some 0)) 0 a.cid ≡ stirred log q = rw (eq-eqb entry.cid a.cid (ap (λ (y : Sqe). y.cid) same)) (ap (mark_for log) (ap (λ (y : Sqe). admin_command_of y) same ∙ is)) in
        subst (λ (o : Option ℕ). mark_of (after o) 0 a.cid ≤ stirred (after o) q) (sym own) (omega (arith, mark))

    owed_new : (r i q : ℕ) (x : Sqe) → qid_of_region past t ≡ Some q → entry ≡ x → owes (after (qid_of_region past t)) q x.cid ≡ true → ⊥
    owed_new r i q x own same w =
        let none : owes (after (Some q)) q x.cid ≡ false = rw (eq-eqb q q refl, eq-eqb entry.cid x.cid (ap (λ (y : Sqe). y.cid) same)) refl in
        let some : owes (after (Some q)) q x.cid ≡ true = subst (λ (o : Option ℕ). owes (after o) q x.cid ≡ true) own w in
        cc (none, some)

    pub tells_fetch : (had : ℕ → ℕ → Bool) → TellsAt rules log past had → TellsAt rules (shown rules (Logged (event.Fetch t j entry) ∷ notes)) (event.Fetch t j entry ∷ past) had
    tells_fetch had c = record {
      there = λ k h. longer k (c.there k h);
      low = λ k q cid a p is. elim (split 0 k a p.0) [
        | inl old ↦ (let mark = marks_same 0 k 0 a (admin_out k a (old, p.1)) (qid_of_region past t) free in let low = c.low k q cid a (old, p.1) is in omega (arith, mark, low, stirred_same q (qid_of_region past t)))
        | inr new ↦ low_new q cid a new.0 new.2 is
      ];
      told = λ k q cid a p is h. elim (split 0 k a p.0) [
        | inl old ↦ elim (c.told k q cid a (old, p.1) is h) [
          | inl x ↦ inl (record { region = x.region; index = x.index; entry = x.entry; out = out_later x.region x.index q x.entry x.out; cid_is = x.cid_is; requested = x.requested })
          | inr less ↦ inr (let mark = marks_same 0 k 0 a (admin_out k a (old, p.1)) (qid_of_region past t) free in omega (arith, mark, less, stirred_same q (qid_of_region past t)))
        ]
        | inr new ↦ absurd (let few = c.there k h in omega (arith, few, new.1))
      ];
      owed = λ r i q x o w. elim (split r i x o.is_there) [
        | inr new ↦ absurd (owed_new r i q x (shows_as r new.0 ∙ o.own) new.2 w)
        | inl old ↦
            let out : IsOut rules past r i q x = record { own = o.own; is_there = old; unposted = o.unposted } in
            elim (c.owed r i q x out (sym (owes_same r i q x out (qid_of_region past t) free) ∙ w)) [
              | inl ok ↦ inl ok
              | inr h ↦ inr (record { of_device = h.of_device; waits_not = h.waits_not; unaborted = h.unaborted; none_due = λ d. none_due rules past r i whole (record { rest = d.rest; all = d.all; among = d.among }) })
            ]
      ];
    }

  -- ---- a completion
  module _ (b t j : ℕ) (cqe : Cqe) (notes : Notes) (s : Stands rules (Logged (event.Post b t j cqe) ∷ notes)) (device : TakesOwn notes (Logged (event.Post b t j cqe))) (c : TellsAt rules (shown rules notes) (logged notes) (had_by notes)) where
    abbrev before : Past
    before = logged notes

    abbrev told_log : lives.Past
    told_log = shown rules notes

    abbrev stands : Stands rules notes
    stands = stands_before rules (Logged (event.Post b t j cqe)) notes s

    done_before : effects_since before ≡ made_last rules before
    done_before = s.each.0.effects_at_once

    abbrev posted : IsPosted rules notes b t j cqe
    posted = posted_so rules notes b t j cqe stands.each s.each.0.posts_own

    given : StatusBy rules notes t j posted.entry cqe
    given = status_by rules notes stands.each b t j cqe posted.entry posted.is_there s.each.0.posts_own

    place : IsOut rules before t j cqe.sqid posted.entry
    place = posted_out rules starts by_regions notes stands b t j cqe posted

    -- what an Abort command took ends with Command Abort Requested
    requested_so : is_abort_requested before t j ≡ true → aborts.is_aborted cqe.status ≡ true
    requested_so ok = by given where
      a : is_aborted before t j ≡ true
      a = requested_aborted before t j ok

      by : StatusBy rules notes t j posted.entry cqe → aborts.is_aborted cqe.status ≡ true
      by (by_device g) = absurd (let none : is_given notes t j ≡ false = rw a (and_none (is_of_device notes t j)) in cc (none, g)) where
        and_none : (x : Bool) → (x && false) ≡ false
        and_none true = refl
        and_none false = refl
      by (by_abort aborted is) = ap aborts.is_aborted is ∙ ap (λ (x : Bool). aborts.is_aborted (if x then abort_requested else aborted_by_deletion)) ok
      by (by_checks z none is dw0) = absurd (admin-unaborted rules before (effects_of rules notes stands.each) j (subst (λ (k : ℕ). is_aborted before k j ≡ true) z a))

    -- the command that an Abort names, where its completion says that it was aborted
    abbrev IsTold : (q cid : ℕ) → Type 0
    IsTold q cid = told_of (stirred told_log q) (mark_of told_log 0 cqe.cid) (completion_of cqe) ≡ true

    pub told_own : (q cid : ℕ) → t ≡ 0 → is_passed notes j ≡ false → admin_command_of posted.entry ≡ Abort q cid → cqe.status ≡ status_of rules.start (table_before rules before j) posted.entry
        → cqe.dw0 ≡ told_dw0 (has_aborted before j) (verdict_of rules.start (table_before rules before j) posted.entry) (dw0_of rules.start (table_before rules before j) posted.entry)
        → IsTold q cid → IsTaken rules before q cid
    told_own q cid z none command status dw0 told =
        let outer = and_parts (is_success cqe.status && says_aborted (Some cqe.dw0)) (stirred told_log q == mark_of told_log 0 cqe.cid) told in
        let inner = and_parts (is_success cqe.status) (says_aborted (Some cqe.dw0)) outer.0 in
        let accepted : is_success (status_of rules.start (table_before rules before j) posted.entry) ≡ true = ap is_success (sym status) ∙ inner.0 in
        let v : verdict_of rules.start (table_before rules before j) posted.entry ≡ verdict.Abort q cid = abort_verdict rules.start (table_before rules before j) posted.entry q cid command accepted in
        let says : cqe.dw0 ≡ (if has_aborted before j then 0 else 1) = dw0 ∙ ap (λ (w : Verdict). told_dw0 (has_aborted before j) w (dw0_of rules.start (table_before rules before j) posted.entry)) v in
        let found : has_aborted before j ≡ true = says_one (has_aborted before j) (ap (λ (n : ℕ). says_aborted (Some n)) (sym says) ∙ inner.1) in
        let pending : IsPending rules before j posted.entry = (subst (λ (k : ℕ). entry_at before k j ≡ Some posted.entry) z posted.is_there, subst (λ (k : ℕ). is_posted before k j ≡ false) z posted.no_post) in
        elim (c.told j q cid posted.entry pending command found) [
          | inl x ↦ x
          | inr less ↦ absurd (
              let same : stirred told_log q ≡ mark_of told_log 0 cqe.cid = eqb-true (stirred told_log q) (mark_of told_log 0 cqe.cid) outer.1 in
              let named : mark_of told_log 0 cqe.cid ≡ mark_of told_log 0 posted.entry.cid = ap (mark_of told_log 0) posted.cid in
              omega (arith, less, same, named))
        ]

    -- a command that it names ends so
    told_place : (r i q : ℕ) (x : Sqe) → IsOut rules before r i q x → t ≡ 0 → admin_command_of posted.entry ≡ Abort q x.cid → IsTold q x.cid → (is_abort_requested before r i ≡ true) ⊎ IsHeld rules before (had_by notes) r i
    told_place r i q x o z command told = by given where
      parts : ((is_success cqe.status && says_aborted (Some cqe.dw0)) ≡ true) × ((stirred told_log q == mark_of told_log 0 cqe.cid) ≡ true)
      parts = and_parts (is_success cqe.status && says_aborted (Some cqe.dw0)) (stirred told_log q == mark_of told_log 0 cqe.cid) told

      by : StatusBy rules notes t j posted.entry cqe → (is_abort_requested before r i ≡ true) ⊎ IsHeld rules before (had_by notes) r i
      by (by_abort a is) = absurd (admin-unaborted rules before (effects_of rules notes stands.each) j (subst (λ (k : ℕ). is_aborted before k j ≡ true) z a))
      by (by_checks first none is dw0) =
          let taken : IsTaken rules before q x.cid = told_own q x.cid first none command is dw0 told in
          let same = out_same rules starts by_regions notes stands taken.region taken.index r i q taken.entry x taken.out o taken.cid_is in
          inl (subst (λ (k : ℕ). is_abort_requested before r k ≡ true) same.1 (subst (λ (k : ℕ). is_abort_requested before k taken.index ≡ true) same.0 taken.requested))
      by (by_device g) =
          let inner = and_parts (is_success cqe.status) (says_aborted (Some cqe.dw0)) parts.0 in
          let own = (and_parts (is_of_device notes t j) (not (is_aborted before t j)) g).0 in
          let passed : is_passed notes j ≡ true = subst (λ (y : Bool). (not y || is_passed notes j) ≡ true) (eq-eqb t 0 z) own in
          let had : is_had notes r i ≡ true = device z passed posted.entry q x.cid (subst (λ (k : ℕ). entry_at before k j ≡ Some posted.entry) z posted.is_there) command inner.0 inner.1 r i x o.own o.is_there refl o.unposted in
          let both = and_parts (is_given notes r i) (not (is_waiting (fate_of before r i))) had in
          let given_too = and_parts (is_of_device notes r i) (not (is_aborted before r i)) both.0 in
          inr (record { of_device = and_from (is_of_device notes r i) (has_passed notes) given_too.0 (passed_some notes j passed); waits_not = not_so (is_waiting (fate_of before r i)) both.1; unaborted = not_so (is_aborted before r i) given_too.1; none_due = none_due rules before r i done_before }) where
            not_so : (y : Bool) → not y ≡ true → y ≡ false
            not_so true h = cc h
            not_so false h = refl

    -- the judge finds the Abort that the completion answers
    abort_answered : (q cid : ℕ) → names (answered told_log (completion_of cqe)) q cid ≡ true → (t ≡ 0) × (admin_command_of posted.entry ≡ Abort q cid)
    abort_answered q cid named = by (asked told_log 0 cqe.cid) refl (names_is (answered told_log (completion_of cqe)) q cid named) where
      by : (o : Option AdminCommand) → asked told_log 0 cqe.cid ≡ o → answered_by o (completion_of cqe) ≡ Abort q cid → (t ≡ 0) × (admin_command_of posted.entry ≡ Abort q cid)
      by None is e = cc e
      by (Some command) is e = elim (cases_eq cqe.sqid 0) [
        | inr io ↦ absurd (let other : Other ≡ Abort q cid = sym (λ k. if ne_eqb cqe.sqid 0 io k then command else Other) ∙ e in cc other)
        | inl z ↦
            let region : t ≡ 0 = admin_region rules before (effects_of rules notes stands.each) t (posted.sqid ∙ ap (λ (k : ℕ). Some k) z) in
            let asks : asked told_log 0 cqe.cid ≡ Some (admin_command_of posted.entry) = ap (λ (k : ℕ). asked told_log k cqe.cid) (sym z) ∙ posted_asked rules starts by_regions notes stands b t j cqe posted in
            (region, sym (same_Some command (admin_command_of posted.entry) (sym is ∙ asks)) ∙ sym (λ k. if eq-eqb cqe.sqid 0 z k then command else Other) ∙ e)
      ]

    abbrev then_log : Option ℕ → lives.Past
    then_log o = post_of o (length (posted_to before b) % cq_slots rules b) cqe told_log

    out_before : (r i q : ℕ) (x : Sqe) → IsOut rules (event.Post b t j cqe ∷ before) r i q x → IsOut rules before r i q x
    out_before r i q x o = record { own = o.own; is_there = o.is_there; unposted = (or_parts (t == r && j == i) (is_posted before r i) o.unposted).1 }

    pending_before : (k : ℕ) (a : Sqe) → IsPending rules (event.Post b t j cqe ∷ before) k a → IsPending rules before k a
    pending_before k a p = (p.0, (or_parts (t == 0 && j == k) (is_posted before 0 k) p.1).1)

    -- into a queue that is there
    tells_into : (p : ℕ) → TellsAt rules (then_log (Some p)) (event.Post b t j cqe ∷ before) (had_by notes)
    tells_into p = record {
      there = c.there;
      low = λ k q cid a pending is. (let low = c.low k q cid a (pending_before k a pending) is in omega (arith, low, grows q));
      told = λ k q cid a pending is h. elim (c.told k q cid a (pending_before k a pending) is h) [
        | inr less ↦ inr (omega (arith, less, grows q))
        | inl x ↦ elim (cases_Bool (t == x.region && j == x.index)) [
          | inr other ↦ inl (record {
            region = x.region;
            index = x.index;
            entry = x.entry;
            out = record { own = x.out.own; is_there = x.out.is_there; unposted = rw other x.out.unposted };
            cid_is = x.cid_is;
            requested = x.requested;
          })
          | inl here ↦
              let parts = and_parts (t == x.region) (j == x.index) here in
              let region : x.region ≡ t = sym (eqb-true t x.region parts.0) in
              let index : x.index ≡ j = sym (eqb-true j x.index parts.1) in
              let queue : cqe.sqid ≡ q = same_Some cqe.sqid q (sym posted.sqid ∙ ap (qid_of_region before) (sym region) ∙ x.out.own) in
              let yes : is_abort_requested before t j ≡ true = subst (λ (n : ℕ). is_abort_requested before t n ≡ true) index (subst (λ (n : ℕ). is_abort_requested before n x.index ≡ true) region x.requested) in
              let more = stirred_more told_log p slot (completion_of cqe) q queue (requested_so yes) in
              let low = c.low k q cid a (pending_before k a pending) is in
              inr (omega (arith, low, more))
        ]
      ];
      owed = λ r i q x o w. elim (or_cases (names (answered told_log (completion_of cqe)) q x.cid && told_of (stirred told_log (sq_named (answered told_log (completion_of cqe)))) (mark_if (asked told_log 0 cqe.cid) (mark_of told_log 0 cqe.cid)) (completion_of cqe)) (owes told_log q x.cid) w) [
        | inr earlier ↦ later r i (c.owed r i q x (out_before r i q x o) earlier)
        | inl told ↦
            let both = and_parts (names (answered told_log (completion_of cqe)) q x.cid) (told_of (stirred told_log (sq_named (answered told_log (completion_of cqe)))) (mark_if (asked told_log 0 cqe.cid) (mark_of told_log 0 cqe.cid)) (completion_of cqe)) told in
            let it = abort_answered q x.cid both.0 in
            later r i (told_place r i q x (out_before r i q x o) it.0 it.1 (is_told q x.cid (names_is (answered told_log (completion_of cqe)) q x.cid both.0) both.1))
      ];
    } where
      slot : Option ℕ
      slot = Some (length (posted_to before b) % cq_slots rules b)

      grows : (q : ℕ) → stirred told_log q ≤ stirred (then_log (Some p)) q
      grows q = stirred_grows told_log p slot (completion_of cqe) q

      later : (r i : ℕ) → (is_abort_requested before r i ≡ true) ⊎ IsHeld rules before (had_by notes) r i
          → (is_abort_requested (event.Post b t j cqe ∷ before) r i ≡ true) ⊎ IsHeld rules (event.Post b t j cqe ∷ before) (had_by notes) r i
      later r i (inl ok) = inl ok
      later r i (inr h) = inr (record { of_device = h.of_device; waits_not = h.waits_not; unaborted = h.unaborted; none_due = λ d. none_due rules before r i done_before (record { rest = d.rest; all = d.all; among = d.among }) })

      is_told : (q cid : ℕ) → answered told_log (completion_of cqe) ≡ Abort q cid
          → told_of (stirred told_log (sq_named (answered told_log (completion_of cqe)))) (mark_if (asked told_log 0 cqe.cid) (mark_of told_log 0 cqe.cid)) (completion_of cqe) ≡ true → IsTold q cid
      is_told q cid is told = by (asked told_log 0 cqe.cid) refl is where
        by : (o : Option AdminCommand) → asked told_log 0 cqe.cid ≡ o → answered_by o (completion_of cqe) ≡ Abort q cid → IsTold q cid
        by None none e = cc e
        by (Some command) some e =
            subst (λ (k : AdminCommand). told_of (stirred told_log (sq_named k)) (mark_of told_log 0 cqe.cid) (completion_of cqe) ≡ true) is
            (subst (λ (o : Option AdminCommand). told_of (stirred told_log (sq_named (answered told_log (completion_of cqe)))) (mark_if o (mark_of told_log 0 cqe.cid)) (completion_of cqe) ≡ true) some told)

    pub tells_post : TellsAt rules (shown rules (Logged (event.Post b t j cqe) ∷ notes)) (event.Post b t j cqe ∷ before) (had_by notes)
    tells_post =
        let into = posts_there before t b posted.region in
        subst (λ (o : Option ℕ). TellsAt rules (then_log o) (event.Post b t j cqe ∷ before) (had_by notes)) (sym into.1) (tells_into into.0)

  -- ---- all notes
  pub tells_at : (notes : Notes) → Stands rules notes → DeviceTakesOwn notes → TellsAt rules (shown rules notes) (logged notes) (had_by notes)
  tells_at [] s d = record { there = λ k h. cc h; low = λ k q cid a p is. absurd (none-some a p.0); told = λ k q cid a p is h. cc h; owed = λ r i q x o w. cc w }
  tells_at (Tail r slot ∷ notes) s d = by (qid_of_region (logged notes) r) (tells_at notes (stands_before rules (Tail r slot) notes s) d.1) where
    by : (o : Option ℕ) → TellsAt rules (shown rules notes) (logged notes) (had_by notes) → TellsAt rules (tail_of o slot (shown rules notes)) (logged notes) (had_by notes)
    by None t = t
    by (Some q) t = tells_tail rules (shown rules notes) (logged notes) (had_by notes) q slot t
  tells_at (Head c slot ∷ notes) s d = by (cqid_of_region (logged notes) c) (tells_at notes (stands_before rules (Head c slot) notes s) d.1) where
    by : (o : Option ℕ) → TellsAt rules (shown rules notes) (logged notes) (had_by notes) → TellsAt rules (head_of o slot (shown rules notes)) (logged notes) (had_by notes)
    by None t = t
    by (Some q) t = tells_head rules (shown rules notes) (logged notes) (had_by notes) q slot t
  tells_at (Passed i ∷ notes) s d =
      tells_more rules (shown rules notes) (logged notes) (had_by notes) (had_by (Passed i ∷ notes))
      (λ r k h. more (not (r == 0)) (i == k) (is_passed notes k) (has_passed notes) h) (tells_at notes (stands_before rules (Passed i) notes s) d.1) where
        more : (x y z p : Bool) → ((x || z) && p) ≡ true → ((x || (y || z)) && true) ≡ true
        more true y z p h = refl
        more false true z p h = refl
        more false false true p h = refl
        more false false false p h = cc h
  tells_at (Logged (event.Fetch r i entry) ∷ notes) s d = tells_fetch r i entry notes s (had_by notes) (tells_at notes (stands_before rules (Logged (event.Fetch r i entry)) notes s) d.1)
  tells_at (Logged (event.Post c r i cqe) ∷ notes) s d = tells_post c r i cqe notes s d.0 (tells_at notes (stands_before rules (Logged (event.Post c r i cqe)) notes s) d.1)
  tells_at (Logged (event.Pick seen pick) ∷ notes) s d =
      tells_later rules (shown rules notes) (logged notes) (event.Pick seen pick ∷ logged notes) (had_by notes) (leaves_pick rules (logged notes) seen pick) (tells_at notes (stands_before rules (Logged (event.Pick seen pick)) notes s) d.1)
  tells_at (Logged (event.OpenSq q r c k) ∷ notes) s d =
      let before = stands_before rules (Logged (event.OpenSq q r c k)) notes s in
      let at = io_at rules starts by_regions notes before in
      let x = at.queue q (opens_io rules (logged notes) q r c k s.each.0.effects_at_once) in
      let fresh : qid_of_region (logged notes) r ≡ None = (opened_fresh rules (logged notes) q r c k x.stage s.each.0.effects_at_once x.phase).0 in
      tells_later rules (shown rules notes) (logged notes) (event.OpenSq q r c k ∷ logged notes) (had_by notes) (leaves_open rules (logged notes) q r c k (at.untouched r fresh).1) (tells_at notes before d.1)
  tells_at (Logged (event.Abort r i) ∷ notes) s d =
      let before = stands_before rules (Logged (event.Abort r i)) notes s in
      tells_later rules (shown rules notes) (logged notes) (event.Abort r i ∷ logged notes) (had_by notes)
      (leaves_abort rules notes before.each (effects_of rules notes before.each) r i s.each.0.effects_at_once) (tells_at notes before d.1)
  tells_at (Logged (event.ClosedSq q r) ∷ notes) s d =
      tells_later rules (shown rules notes) (logged notes) (event.ClosedSq q r ∷ logged notes) (had_by notes) (leaves_closed rules (logged notes) q r s.each.0.effects_at_once) (tells_at notes (stands_before rules (Logged (event.ClosedSq q r)) notes s) d.1)
  tells_at (Logged (event.SetArbitration x) ∷ notes) s d =
      tells_later rules (shown rules notes) (logged notes) (event.SetArbitration x ∷ logged notes) (had_by notes) (leaves_effect rules (logged notes) (event.SetArbitration x) tt) (tells_at notes (stands_before rules (Logged (event.SetArbitration x)) notes s) d.1)
  tells_at (Logged (event.OpenCq q r) ∷ notes) s d =
      tells_later rules (shown rules notes) (logged notes) (event.OpenCq q r ∷ logged notes) (had_by notes) (leaves_effect rules (logged notes) (event.OpenCq q r) tt) (tells_at notes (stands_before rules (Logged (event.OpenCq q r)) notes s) d.1)
  tells_at (Logged (event.Closing q r) ∷ notes) s d =
      tells_later rules (shown rules notes) (logged notes) (event.Closing q r ∷ logged notes) (had_by notes) (leaves_effect rules (logged notes) (event.Closing q r) tt) (tells_at notes (stands_before rules (Logged (event.Closing q r)) notes s) d.1)
  tells_at (Logged (event.ClosedCq q r) ∷ notes) s d =
      tells_later rules (shown rules notes) (logged notes) (event.ClosedCq q r ∷ logged notes) (had_by notes) (leaves_effect rules (logged notes) (event.ClosedCq q r) tt) (tells_at notes (stands_before rules (Logged (event.ClosedCq q r)) notes s) d.1)
  tells_at (note ∷ notes) s d = tells_at notes (stands_before rules note notes s) d.1
