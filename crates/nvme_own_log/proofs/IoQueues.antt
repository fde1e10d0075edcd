-- What is shown of every submission queue agrees with its region at each note, so the fetches from it keep the rules.
use Rattle.std.proofs.Common.{◌≡◌, ℕ, ◌%◌, ◌<◌, ◌==◌, ◌&&◌, Bool, true, false, if◌then◌else◌, List, [], ◌∷◌, ◌++◌, length, Option, Some, None, refl, sym, ap, ◌∙◌, subst, arith, ◌⊎◌, inl, inr, eqb-true}
use Rattle.std.specs.Prelude.{slice_get}
use Rattle.std.proofs.lemmas.Bool.{cases_eq, eq-eqb, ne_eqb, or_cases, or_parts, and_parts, false_from_ne_true}
use Rattle.std.proofs.lemmas.Option.{none-some, same_Some}
use Rattle.nvme_entry.specs.AdminCommand.{admin_command_of}
use Rattle.nvme_entry.specs.declared.submission.Sqe.{Sqe}
use Rattle.nvme_entry.specs.declared.completion.Cqe.{Cqe}
use Rattle.nvme_arbiter.specs.declared.settings.Class.{Class}
use Rattle.nvme_arbiter.specs.Limits.{queue_limit}
use Rattle.nvme_arbiter.specs.Lawful.{IsLimitedRun}
use Rattle.nvme_admin.specs.Accepted.{queue_table}
use Rattle.nvme_admin.specs.History.{Submission}
use Rattle.nvme_admin.specs.QueueTable.{admin_sq, admin_cq}
use Rattle.nvme_admin.specs.declared.region.Region.{Region}
use Rattle.nvme_log.specs.declared.event.Event.{Event}
use Rattle.nvme_log.specs.declared.event.Event.TheVariants.{Fetch, SetArbitration, OpenSq, OpenCq, Closing, Abort, Post, ClosedSq, ClosedCq}
use Rattle.nvme_log.specs.declared.event.Event.TheVariants as event
use Rattle.nvme_log.specs.Rules.{FrontRules, Past, Each, upto, sq_regions_of, cq_regions_of}
use Rattle.nvme_log.specs.Queues.{Queue, admin_queue, open_sq, has_region, is_open_region, qid_of_region}
use Rattle.nvme_log.specs.Places.{fetched, picked, fate_of, is_waiting}
use Rattle.nvme_log.specs.Histories.{arbitration_of, table_history}
use Rattle.nvme_log.specs.Completions.{is_posted}
use Rattle.nvme_log.specs.Effects.{EffectsAtOnce}
use Rattle.nvme_log.specs.Laws.{as_open, StartsWithAdmin}
use Rattle.nvme_log.proofs.LoadedRegions.{region-owned}
use Rattle.nvme_log.proofs.Turns.{region_0-used}
use Rattle.nvme_ctrl_log.specs.Notes.{Notes, Note, Logged, Tail, Head, EachNote, logged}
use Rattle.nvme_ctrl_log.specs.Doorbells.{sq_slots, submitted}
use Rattle.nvme_ctrl_log.specs.Making.{placing_in}
use Rattle.nvme_ctrl_log.specs.Account.{IsLawful}
use Rattle.nvme_ctrl_log.proofs.FurtherAccounts.{sound-notes}
use Rattle.nvme_ctrl_log.proofs.TakenCommands.{IsSound, admin_picked, lawful-before}
use Rattle.nvme_audit.specs.Lives.{turns_sq}
use Rattle.nvme_own_log.specs.Shown.{start_of, shown, fetch_of}
use Rattle.nvme_own_log.specs.Duties.{IsFreeName, NamesAreFree, KeepsDuties, IsDutiful}
use Rattle.nvme_own_log.proofs.AdminQueues.{AdminAt, admin_asks, admin_agrees, effects_of}
use Rattle.nvme_own_log.proofs.Agreeing.{get_push}
use Rattle.nvme_own_log.proofs.CqRegions.{region_with}
use Rattle.nvme_own_log.proofs.SqRegions.{used_after_event}
use Rattle.nvme_own_log.proofs.EachEvent.{free_before}
use Rattle.nvme_own_log.proofs.AdminTurns.{takes_next, takes_other}
use Rattle.nvme_own_log.proofs.Answered.{IsPosted, posted_so}
use Rattle.nvme_own_log.proofs.OwnRegions.{admin_qid, opens_io, closes_io}
use Rattle.nvme_own_log.proofs.Phases.{IsPending, AreAlone, Stage, untold, told_on, Phase, closed, IsCalm, calm, quiet_whole, opened_fresh, IsFresh, open_own, open_other, closing_own, closing_other, closing_region}
use Rattle.nvme_own_log.proofs.PhaseSteps.{AreUsed, any_of, Telling, nothing, begins, finishes, at_fetch, at_post, at_closed, at_pick}
use Rattle.nvme_own_log.proofs.Queues.{QueueAt, Seen, seen_tail, seen_head, seen_fetch, seen_post, seen_begins, seen_ends, unturned}

-- the admin queues have their regions
pub some_sqs : (rules : FrontRules) → StartsWithAdmin rules → 0 < length (sq_regions_of rules)
unfolding queue_table
some_sqs rules starts = by (sq_regions_of rules) (starts.sq 0) where
  by : (rs : List Region) → Some admin_queue ≡ as_open (admin_sq rs) → 0 < length rs
  by [] e = cc e
  by (x ∷ rs) e = omega arith

pub some_cqs : (rules : FrontRules) → StartsWithAdmin rules → 0 < length (cq_regions_of rules)
unfolding queue_table
some_cqs rules starts = by (cq_regions_of rules) (starts.cq 0) where
  by : (rs : List Region) → Some 0 ≡ admin_cq rs → 0 < length rs
  by [] e = cc e
  by (x ∷ rs) e = omega arith

module _ (rules : FrontRules) where
  -- what holds at each note
  pub record QueuesAt (notes : Notes) : Type 0 where
    pub used : AreUsed rules (logged notes)
    pub alone : AreAlone rules (logged notes)
    pub picked_posts : (k : ℕ) → is_posted (logged notes) 0 k ≡ true → k < picked (logged notes) 0
    pub untouched : (r : ℕ) → qid_of_region (logged notes) r ≡ None → (submitted rules notes r ≡ 0) × (fetched (logged notes) r ≡ [])
    pub queue : (q : ℕ) → (q ≡ 0 → ⊥) → QueueAt rules notes q

  -- ---- note by note
  -- an open region was opened
  opened : (past : Past) → Each (EffectsAtOnce rules) past → (s : ℕ) → is_open_region past s ≡ true → qid_of_region past s ≡ None → ⊥
  opened past h s is_open none = by some.0 (open_sq past some.0) refl some.1 where
    some : (p : ℕ) × (has_region s (open_sq past p) ≡ true)
    some = any_of (λ (p : ℕ). has_region s (open_sq past p)) (upto queue_limit) is_open

    by : (p : ℕ) (o : Option Queue) → open_sq past p ≡ o → has_region s o ≡ true → ⊥
    by p None is on = cc on
    by p (Some queue) is on = none-some p (sym none ∙ ap (qid_of_region past) (sym (eqb-true queue.region s on)) ∙ region-owned rules past h p queue is)

  module _ (notes : Notes) (h : EachNote (IsLawful rules) notes) (at : QueuesAt notes) where
    abbrev past : Past
    past = logged notes

    effects : Each (EffectsAtOnce rules) past
    effects = effects_of rules notes h

    -- what is fetched
    untouched_fetch : (s i : ℕ) (entry : Sqe) → IsLawful rules notes (Logged (Fetch s i entry)) → (r : ℕ) → qid_of_region past r ≡ None → (submitted rules notes r ≡ 0) × (fetched (Fetch s i entry ∷ past) r ≡ [])
    untouched_fetch s i entry it r none = elim (cases_eq s r) [
      | inl same ↦ absurd (opened past effects s it.served_while_open.0 (ap (qid_of_region past) same ∙ none))
      | inr other ↦ ((at.untouched r none).0, rw (ne_eqb s r other) (at.untouched r none).1)
    ]

    untouched_tail : (s slot : ℕ) → IsLawful rules notes (Tail s slot) → (r : ℕ) → qid_of_region past r ≡ None → (submitted rules (Tail s slot ∷ notes) r ≡ 0) × (fetched past r ≡ [])
    untouched_tail s slot it r none = elim (cases_eq s r) [
      | inl same ↦ absurd (opened past effects s it.is_open (ap (qid_of_region past) same ∙ none))
      | inr other ↦ (rw (ne_eqb s r other) (at.untouched r none).0, (at.untouched r none).1)
    ]

    -- a command is fetched from the admin queue while no other of its queue is pending
    alone_fetch : AdminAt rules notes → (s i : ℕ) (entry : Sqe) → KeepsDuties (start_of rules) (shown rules (Logged (Fetch s i entry) ∷ notes)) → AreAlone rules (Fetch s i entry ∷ past)
    alone_fetch admin s i entry duties q k j one other p o turns turns_too = elim (cases_eq s 0) [
      | inr io ↦ at.alone q k j one other (before io k one p) (before io j other o) turns turns_too
      | inl zero_is ↦ elim (parts zero_is k one p) [
        | inl pk ↦ elim (parts zero_is j other o) [
          | inl oj ↦ at.alone q k j one other pk oj turns turns_too
          | inr new ↦ absurd (fresh zero_is k one pk q (ap (λ (x : Sqe). turns_sq (admin_command_of x) q) new.1 ∙ turns_too) turns)
        ]
        | inr mine ↦ elim (parts zero_is j other o) [
          | inl oj ↦ absurd (fresh zero_is j other oj q (ap (λ (x : Sqe). turns_sq (admin_command_of x) q) mine.1 ∙ turns) turns_too)
          | inr new ↦ mine.0 ∙ sym new.0
        ]
      ]
    ] where
      before : (s ≡ 0 → ⊥) → (k : ℕ) (e : Sqe) → IsPending rules (Fetch s i entry ∷ past) k e → IsPending rules past k e
      before io k e p = (subst (λ (b : Bool). slice_get (if b then fetched past 0 ++ entry ∷ [] else fetched past 0) k ≡ Some e) (ne_eqb s 0 io) p.0, p.1)

      parts : s ≡ 0 → (k : ℕ) (e : Sqe) → IsPending rules (Fetch s i entry ∷ past) k e → IsPending rules past k e ⊎ ((k ≡ length (fetched past 0)) × (entry ≡ e))
      parts z k e p = elim (get_push (fetched past 0) entry k e (subst (λ (b : Bool). slice_get (if b then fetched past 0 ++ entry ∷ [] else fetched past 0) k ≡ Some e) (eq-eqb s 0 z) p.0)) [
        | inl earlier ↦ inl (earlier, p.1)
        | inr last ↦ inr last
      ]

      fresh : s ≡ 0 → (k : ℕ) (e : Sqe) → IsPending rules past k e → (q : ℕ) → turns_sq (admin_command_of entry) q ≡ true → turns_sq (admin_command_of e) q ≡ true → ⊥
      fresh z k e p q new old =
          let own : qid_of_region past s ≡ Some 0 = ap (qid_of_region past) z ∙ admin_qid rules past effects in
          let duty = subst (λ (o : Option ℕ). KeepsDuties (start_of rules) (fetch_of o (i % sq_slots rules s) entry (shown rules notes))) own duties in
          duty.0.1 refl e.cid (admin_command_of e) (admin_asks rules notes admin k e p.0 p.1) q new old

    alone_post : (c s i : ℕ) (cqe : Cqe) → AreAlone rules (Post c s i cqe ∷ past)
    alone_post c s i cqe q k j one other p o turns turns_too =
        at.alone q k j one other (p.0, (or_parts (s == 0 && i == k) (is_posted past 0 k) p.1).1) (o.0, (or_parts (s == 0 && i == j) (is_posted past 0 j) o.1).1) turns turns_too

    posted_post : (c s i : ℕ) (cqe : Cqe) → IsLawful rules notes (Logged (Post c s i cqe)) → (k : ℕ) → is_posted (Post c s i cqe ∷ past) 0 k ≡ true → k < picked past 0
    posted_post c s i cqe it k p = elim (or_cases (s == 0 && i == k) (is_posted past 0 k) p) [
      | inl here ↦
          let parts = and_parts (s == 0) (i == k) here in
          let posted : IsPosted rules notes c s i cqe = posted_so rules notes c s i cqe h it.posts_own in
          admin_picked rules past effects k
          (subst (λ (z : ℕ). is_waiting (fate_of past 0 z) ≡ false) (eqb-true i k parts.1) (subst (λ (z : ℕ). is_waiting (fate_of past z i) ≡ false) (eqb-true s 0 parts.0) posted.served))
      | inr earlier ↦ at.picked_posts k earlier
    ]

    used_opened : (qid region c : ℕ) (class : Class) → IsFresh rules past region → AreUsed rules (OpenSq qid region c class ∷ past)
    used_opened qid region c class fresh s p own = by (region == s) refl own where
      by : (b : Bool) → (region == s) ≡ b → (if b then Some qid else qid_of_region past s) ≡ Some p → (queue_table rules.start (table_history rules past)).sq_region_used s ≡ true
      by true e k = subst (λ (z : ℕ). (queue_table rules.start (table_history rules past)).sq_region_used z ≡ true) (eqb-true region s e) fresh.1
      by false e k = at.used s p k

    untouched_opened : (qid region c : ℕ) (class : Class) (r : ℕ) → qid_of_region (OpenSq qid region c class ∷ past) r ≡ None → (submitted rules notes r ≡ 0) × (fetched past r ≡ [])
    untouched_opened qid region c class r none = by (region == r) none where
      by : (b : Bool) → (if b then Some qid else qid_of_region past r) ≡ None → (submitted rules notes r ≡ 0) × (fetched past r ≡ [])
      by true k = absurd (none-some qid (sym k))
      by false k = at.untouched r k

    -- ---- a queue at a note
    -- the queue is opened
    queue_opened : (q qid region c : ℕ) (class : Class) → IsLawful rules notes (Logged (OpenSq qid region c class)) → IsFresh rules past region → QueueAt rules notes q → QueueAt rules (Logged (OpenSq qid region c class) ∷ notes) q
    queue_opened q qid region c class it fresh x = elim (cases_eq qid q) [
      | inl same ↦ subst (λ (z : ℕ). QueueAt rules (Logged (OpenSq z region c class) ∷ notes) q) (sym same)
          (record {
            stage = x.stage;
            phase = open_own rules past q region c class x.stage (subst (λ (z : ℕ). EffectsAtOnce rules past (OpenSq z region c class)) same it.effects_at_once) x.phase;
            seen = now x.stage x.seen;
          })
      | inr other ↦ record { stage = x.stage; phase = open_other rules past q qid region c class other fresh.0 x.stage it.effects_at_once x.phase; seen = still other x.stage x.seen }
    ] where
      now : (st : Stage) → Seen rules notes q st → Seen rules (Logged (OpenSq q region c class) ∷ notes) q st
      now untold seen = (
        seen.0,
        λ queue is_open. let on : region ≡ queue.region = ap (λ (z : Queue). z.region) (same_Some _ queue (sym (λ i. if eq-eqb q q refl i then Some (record { region = region; cqid = c; class = class }) else open_sq past q) ∙ is_open)) in
            subst (λ (z : ℕ). (submitted rules notes z ≡ 0) × (fetched past z ≡ [])) on (at.untouched region fresh.0),
      )
      now (told_on r cqid) seen = seen

      still : (qid ≡ q → ⊥) → (st : Stage) → Seen rules notes q st → Seen rules (Logged (OpenSq qid region c class) ∷ notes) q st
      still other untold seen = (seen.0, λ queue is_open. seen.1 queue (subst (λ (b : Bool). (if b then Some (record { region = region; cqid = c; class = class }) else open_sq past q) ≡ Some queue) (ne_eqb qid q other) is_open))
      still other (told_on r cqid) seen = seen

    -- its deletion begins
    queue_closing : (q qid region : ℕ) → IsLawful rules notes (Logged (Closing qid region)) → qid_of_region past region ≡ Some qid → QueueAt rules notes q → QueueAt rules (Logged (Closing qid region) ∷ notes) q
    queue_closing q qid region it own x = elim (cases_eq qid q) [
      | inl same ↦ subst (λ (z : ℕ). QueueAt rules (Logged (Closing z region) ∷ notes) q) (sym same)
          (record {
            stage = x.stage;
            phase = closing_own rules past q region x.stage (λ queue o. (region-owned rules past effects q queue o, region_with rules past effects q queue o)) (subst (λ (z : ℕ). EffectsAtOnce rules past (Closing z region)) same it.effects_at_once) x.phase;
            seen = now x.stage x.seen;
          })
      | inr other ↦ record {
        stage = x.stage;
        phase = closing_other rules past q qid region x.stage other (λ r mine same. other (same_Some qid q (sym own ∙ ap (qid_of_region past) (sym same) ∙ mine))) it.effects_at_once x.phase;
        seen = still other x.stage x.seen;
      }
    ] where
      now : (st : Stage) → Seen rules notes q st → Seen rules (Logged (Closing q region) ∷ notes) q st
      now untold seen = (seen.0, λ queue is_open. absurd (none-some queue (sym (λ i. if eq-eqb q q refl i then None else open_sq past q) ∙ is_open)))
      now (told_on r cqid) seen = seen

      still : (qid ≡ q → ⊥) → (st : Stage) → Seen rules notes q st → Seen rules (Logged (Closing qid region) ∷ notes) q st
      still other untold seen = (seen.0, λ queue is_open. seen.1 queue (subst (λ (b : Bool). (if b then None else open_sq past q) ≡ Some queue) (ne_eqb qid q other) is_open))
      still other (told_on r cqid) seen = seen

    -- a completion
    queue_post : (q c s i : ℕ) (cqe : Cqe) → IsLawful rules notes (Logged (Post c s i cqe)) → IsSound rules past → AdminAt rules notes → NamesAreFree (shown rules (Logged (Post c s i cqe) ∷ notes))
        → QueueAt rules notes q → QueueAt rules (Logged (Post c s i cqe) ∷ notes) q
    queue_post q c s i cqe it sound admin free x = by x.stage x.phase x.seen (at_post rules past at.alone q c s i cqe x.stage it.deletes it.effects_at_once x.phase) where
      by : (st : Stage) → Phase rules past q st → Seen rules notes q st → Telling rules past at.alone q c s i cqe st → QueueAt rules (Logged (Post c s i cqe) ∷ notes) q
      by st phase seen (nothing z none after) =
          record { stage = z; phase = after; seen = seen_post rules notes h q c s i cqe z it free (unturned rules notes h q admin at.alone c s i cqe it sound none) phase seen }
      by st phase seen (begins e queue turns is o after) =
          record { stage = told_on queue.region queue.cqid; phase = after; seen = seen_begins rules notes h q admin c s i cqe it e turns.0 turns.1 turns.2 queue is o seen }
      by st phase seen (finishes e r cqid turns is o after) =
          record { stage = untold; phase = after; seen = seen_ends rules notes h q admin c s i cqe it e turns.0 turns.1 turns.2 is o }

  -- ---- all notes
  -- a note that shows nothing, and an event that shows nothing and opens or closes no submission queue
  abbrev IsUnseen : Note → Type 0
  IsUnseen (Tail r slot) = ⊥
  IsUnseen (Head c slot) = ⊥
  IsUnseen (Logged (Fetch r i entry)) = ⊥
  IsUnseen (Logged (Post c r i cqe)) = ⊥
  IsUnseen (Logged (OpenSq qid region c class)) = ⊥
  IsUnseen (Logged (Closing qid region)) = ⊥
  IsUnseen (Logged e) = Unit {0}
  IsUnseen note = Unit {0}

  unseen : (note : Note) (notes : Notes) (q : ℕ) (st : Stage) → IsUnseen note → Seen rules notes q st → Seen rules (note ∷ notes) q st
  unseen (Tail r slot) notes q st c seen = absurd c
  unseen (Head x slot) notes q st c seen = absurd c
  unseen (Logged (Fetch r i entry)) notes q st c seen = absurd c
  unseen (Logged (Post x r i cqe)) notes q st c seen = absurd c
  unseen (Logged (OpenSq qid region x class)) notes q st c seen = absurd c
  unseen (Logged (Closing qid region)) notes q st c seen = absurd c
  unseen (Logged e) notes q untold c seen = seen
  unseen (Logged e) notes q (told_on r cqid) c seen = seen
  unseen note notes q untold c seen = seen
  unseen note notes q (told_on r cqid) c seen = seen

  module _ (starts : StartsWithAdmin rules) (by_regions : placing_in rules ≡ None) where
    pub sound : (notes : Notes) → EachNote (IsLawful rules) notes → IsLimitedRun rules.mechanism rules.start.settings (arbitration_of (logged notes)) → IsSound rules (logged notes)
    sound notes h l = sound-notes rules Submission 0 0 (some_sqs rules starts) (some_cqs rules starts) notes h l

    -- an event that shows nothing and turns no submission queue
    calm_event : (e : Event) (notes : Notes) → IsCalm rules e → (h : EachNote (IsLawful rules) notes) → IsLawful rules notes (Logged e) → QueuesAt notes → QueuesAt (Logged e ∷ notes)
    calm_event (Fetch r i entry) notes c h it at = absurd c
    calm_event (event.Pick seen pick) notes c h it at = absurd c
    calm_event (OpenSq qid region cqid class) notes c h it at = absurd c
    calm_event (Closing qid region) notes c h it at = absurd c
    calm_event (Post x r i cqe) notes c h it at = absurd c
    calm_event (ClosedSq qid region) notes c h it at = absurd c
    calm_event e notes c h it at = record {
      used = at.used;
      alone = at.alone;
      picked_posts = at.picked_posts;
      untouched = at.untouched;
      queue = λ q io. let x = at.queue q io in record { stage = x.stage; phase = calm rules e (logged notes) q x.stage c it.effects_at_once x.phase; seen = unseen (Logged e) notes q x.stage tt x.seen };
    }

    at_event : (e : Event) (notes : Notes) → (h : EachNote (IsLawful rules) (Logged e ∷ notes)) → IsSound rules (e ∷ logged notes) → IsSound rules (logged notes) → AdminAt rules notes
        → KeepsDuties (start_of rules) (shown rules (Logged e ∷ notes)) → NamesAreFree (shown rules (Logged e ∷ notes)) → QueuesAt notes → QueuesAt (Logged e ∷ notes)
    at_event (Fetch s i entry) notes h sound before admin duties free at = record {
      used = at.used;
      alone = alone_fetch notes h.1 at admin s i entry duties;
      picked_posts = at.picked_posts;
      untouched = untouched_fetch notes h.1 at s i entry h.0;
      queue = λ q io. let x = at.queue q io in record {
        stage = x.stage;
        phase = at_fetch rules (logged notes) before q s i entry x.stage h.0.served_while_open.0 h.0.effects_at_once x.phase;
        seen = seen_fetch rules notes h.1 q s i entry x.stage h.0 free x.phase x.seen;
      };
    }
    at_event (event.Pick seen pick) notes h sound before admin duties free at = record {
      used = λ r p own. used_after_event rules (event.Pick seen pick) (logged notes) r (at.used r p own);
      alone = at.alone;
      picked_posts = λ k p. let few = at.picked_posts k p in elim (cases_eq pick.qid 0) [
        | inl zero_is ↦ (let next = takes_next rules (logged notes) seen pick sound zero_is in omega (arith, few, next.one_more))
        | inr io ↦ omega (arith, few, takes_other rules (logged notes) seen pick sound io)
      ];
      untouched = at.untouched;
      queue = λ q io. let x = at.queue q io in record {
        stage = x.stage;
        phase = at_pick rules starts by_regions (logged notes) seen pick sound at.alone at.used (λ zero_is. unposted) q x.stage x.phase;
        seen = unseen (Logged (event.Pick seen pick)) notes q x.stage tt x.seen;
      };
    } where
      unposted : is_posted (logged notes) 0 (picked (logged notes) 0) ≡ false
      unposted = false_from_ne_true (is_posted (logged notes) 0 (picked (logged notes) 0)) (λ p. let few = at.picked_posts (picked (logged notes) 0) p in absurd (omega (arith, few)))
    at_event (OpenSq qid region c class) notes h sound before admin duties free at =
        let fresh : IsFresh rules (logged notes) region = (let x = at.queue qid (opens_io rules (logged notes) qid region c class h.0.effects_at_once) in opened_fresh rules (logged notes) qid region c class x.stage h.0.effects_at_once x.phase) in
        record {
          used = used_opened notes h.1 at qid region c class fresh;
          alone = at.alone;
          picked_posts = at.picked_posts;
          untouched = untouched_opened notes h.1 at qid region c class;
          queue = λ q io. queue_opened notes h.1 at q qid region c class h.0 fresh (at.queue q io);
        }
    at_event (Closing qid region) notes h sound before admin duties free at =
        let own : qid_of_region (logged notes) region ≡ Some qid =
        (let x = at.queue qid (closes_io rules (logged notes) qid region h.0.effects_at_once) in closing_region rules (logged notes) qid region x.stage (region-owned rules (logged notes) (effects_of rules notes h.1) qid) h.0.effects_at_once x.phase) in
        record {
          used = at.used;
          alone = at.alone;
          picked_posts = at.picked_posts;
          untouched = at.untouched;
          queue = λ q io. queue_closing notes h.1 at q qid region h.0 own (at.queue q io);
        }
    at_event (Post c s i cqe) notes h sound before admin duties free at = record {
      used = at.used;
      alone = alone_post notes h.1 at c s i cqe;
      picked_posts = posted_post notes h.1 at c s i cqe h.0;
      untouched = at.untouched;
      queue = λ q io. queue_post notes h.1 at q c s i cqe h.0 before admin free (at.queue q io);
    }
    at_event (ClosedSq qid s) notes h sound before admin duties free at = record {
      used = λ r p own. used_after_event rules (ClosedSq qid s) (logged notes) r (at.used r p own);
      alone = at.alone;
      picked_posts = at.picked_posts;
      untouched = at.untouched;
      queue = λ q io. let x = at.queue q io in record { stage = x.stage; phase = at_closed rules (logged notes) q qid s x.stage h.0.deletes h.0.effects_at_once x.phase; seen = unseen (Logged (ClosedSq qid s)) notes q x.stage tt x.seen };
    }
    at_event (SetArbitration settings) notes h sound before admin duties free at = calm_event (SetArbitration settings) notes tt h.1 h.0 at
    at_event (OpenCq qid region) notes h sound before admin duties free at = calm_event (OpenCq qid region) notes tt h.1 h.0 at
    at_event (Abort region index) notes h sound before admin duties free at = calm_event (Abort region index) notes tt h.1 h.0 at
    at_event (ClosedCq qid region) notes h sound before admin duties free at = calm_event (ClosedCq qid region) notes tt h.1 h.0 at

    pub queues_at : (notes : Notes) → EachNote (IsLawful rules) notes → IsLimitedRun rules.mechanism rules.start.settings (arbitration_of (logged notes)) → KeepsDuties (start_of rules) (shown rules notes) → NamesAreFree (shown rules notes) → QueuesAt notes
    queues_at [] h l duties free = record {
      used = λ s p own. first_used s p own;
      alone = λ q k j one other p o turns turns_too. absurd (none-some one p.0);
      picked_posts = λ k p. cc p;
      untouched = λ r none. (refl, refl);
      queue = λ q io. record {
        stage = untold;
        phase = closed (rw (ne_eqb q 0 io) refl) (λ s own i entry at. absurd (none-some entry at)) (λ k e p a turns. none-some e p.0) (quiet_whole q [] [] refl);
        seen = (rw (ne_eqb q 0 io) refl, λ queue is_open. absurd (none-some queue (sym (λ i. if ne_eqb q 0 io i then Some admin_queue else None) ∙ is_open)));
      };
    } where
      first_used : (s p : ℕ) → qid_of_region [] s ≡ Some p → (queue_table rules.start rules.regions).sq_region_used s ≡ true
      first_used s p own = by (s == 0) refl own where
        by : (b : Bool) → (s == 0) ≡ b → if◌then◌else◌ {A = Option ℕ} b (Some 0) None ≡ Some p → (queue_table rules.start rules.regions).sq_region_used s ≡ true
        by true e k = subst (λ (z : ℕ). (queue_table rules.start rules.regions).sq_region_used z ≡ true) (sym (eqb-true s 0 e)) (region_0-used rules.start rules.regions)
        by false e k = absurd (none-some p k)
    queues_at (Logged e ∷ notes) h l duties free =
        let earlier = lawful-before rules e (logged notes) l in
        let named = free_before rules IsFreeName (Logged e) notes free in
        at_event e notes h (sound (Logged e ∷ notes) h l) (sound notes h.1 earlier) (admin_agrees rules notes h.1 named) duties free
        (queues_at notes h.1 earlier (free_before rules (IsDutiful (start_of rules)) (Logged e) notes duties) named)
    queues_at (Tail s slot ∷ notes) h l duties free =
        let at = queues_at notes h.1 l (free_before rules (IsDutiful (start_of rules)) (Tail s slot) notes duties) (free_before rules IsFreeName (Tail s slot) notes free) in
        record {
          used = at.used;
          alone = at.alone;
          picked_posts = at.picked_posts;
          untouched = untouched_tail notes h.1 at s slot h.0;
          queue = λ q io. let x = at.queue q io in record { stage = x.stage; phase = x.phase; seen = seen_tail rules notes h.1 q s slot x.stage h.0 duties free x.phase x.seen };
        }
    queues_at (Head c slot ∷ notes) h l duties free =
        let at = queues_at notes h.1 l (free_before rules (IsDutiful (start_of rules)) (Head c slot) notes duties) (free_before rules IsFreeName (Head c slot) notes free) in
        record {
          used = at.used;
          alone = at.alone;
          picked_posts = at.picked_posts;
          untouched = at.untouched;
          queue = λ q io. let x = at.queue q io in record { stage = x.stage; phase = x.phase; seen = seen_head rules notes h.1 q c slot x.stage h.0 free x.phase x.seen };
        }
    queues_at (note ∷ notes) h l duties free =
        let at = queues_at notes h.1 l duties free in
        record {
          used = at.used;
          alone = at.alone;
          picked_posts = at.picked_posts;
          untouched = at.untouched;
          queue = λ q io. let x = at.queue q io in record { stage = x.stage; phase = x.phase; seen = unseen note notes q x.stage tt x.seen };
        }
