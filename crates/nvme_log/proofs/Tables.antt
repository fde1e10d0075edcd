-- The queues of an accounted log are those of its table history.
use Rattle.std.proofs.Common.{◌≡◌, ℕ, ◌==◌, Bool, true, false, if◌then◌else◌, List, [], ◌∷◌, ◌++◌, map, Option, Some, None, refl, sym, ap, ◌∙◌, subst, append_assoc, length, arith, length-append}
use Rattle.std.specs.Prelude.{option_map}
use Rattle.std.proofs.lemmas.Bool.{eqb-true}
use Rattle.std.proofs.lemmas.List.{append-nil}
use Rattle.nvme_entry.specs.declared.submission.Sqe.{Sqe}
use Rattle.nvme_admin.specs.History.{TableHistory, EntryApplied, DeletionFinished}
use Rattle.nvme_admin.specs.QueueTable.{as_closing, unless_closing}
use Rattle.nvme_admin.specs.Accepted.{effects_of, queue_table, sq_at, cq_at, verdict_of}
use Rattle.nvme_admin.specs.Changes.{sq_after, cq_after}
use Rattle.nvme_admin.specs.declared.verdict.SqEntry.{SqEntry}
use Rattle.nvme_admin.specs.declared.verdict.Verdict.{Verdict}
use Rattle.nvme_admin.specs.declared.verdict.Verdict.TheVariants.{Done, BeginDelete, CloseCq}
use Rattle.nvme_admin.specs.declared.verdict.Verdict.TheVariants as verdict
use Rattle.nvme_admin.proofs.Changed.{TellsChange-entry, finish-takes_one}
use Rattle.nvme_log.specs.declared.event.Event.{Event}
use Rattle.nvme_log.specs.declared.event.Event.TheVariants.{Fetch, Pick, SetArbitration, OpenSq, OpenCq, Closing, Abort, Post, ClosedSq, ClosedCq}
use Rattle.nvme_log.specs.Rules.{Past, FrontRules, Each}
use Rattle.nvme_log.specs.Queues.{Queue, open_sq, open_cq}
use Rattle.nvme_log.specs.Places.{waiting}
use Rattle.nvme_log.specs.Histories.{table_history, admin_entry, applied}
use Rattle.nvme_log.specs.Effects.{abort_of, closing_of, closed_cq_of, made_by, made_of, made_last, effects_since, EffectsAtOnce}
use Rattle.nvme_log.specs.Laws.{as_open, StartsWithAdmin, QueuesAre, QueuesAreTheTables}
use Rattle.nvme_log.proofs.Aborting.{makes_aborts}

-- a log with some events after it, in their order
abbrev pub with_events : List Event → Past → Past
with_events [] past = past
with_events (e ∷ rest) past = with_events rest (e ∷ past)

-- aborts leave the queues
aborts_leave_sq : (r q : ℕ) (is : List ℕ) (past : Past) → open_sq (with_events (map (λ (i : ℕ). Abort r i) is) past) q ≡ open_sq past q
aborts_leave_sq r q [] past = refl
aborts_leave_sq r q (i ∷ is) past = aborts_leave_sq r q is (Abort r i ∷ past)

aborts_leave_cq : (r q : ℕ) (is : List ℕ) (past : Past) → open_cq (with_events (map (λ (i : ℕ). Abort r i) is) past) q ≡ open_cq past q
aborts_leave_cq r q [] past = refl
aborts_leave_cq r q (i ∷ is) past = aborts_leave_cq r q is (Abort r i ∷ past)

-- so do those that an Abort command makes
aborts_leave_sqs : (past : Past) (sqid cid q : ℕ) → open_sq (with_events (abort_of past sqid cid) past) q ≡ open_sq past q
aborts_leave_sqs past sqid cid q =
    let aborts = makes_aborts past sqid cid in
    ap (λ (es : List Event). open_sq (with_events es past) q) aborts.are ∙ aborts_leave_sq aborts.region q aborts.indices past

aborts_leave_cqs : (past : Past) (sqid cid q : ℕ) → open_cq (with_events (abort_of past sqid cid) past) q ≡ open_cq past q
aborts_leave_cqs past sqid cid q =
    let aborts = makes_aborts past sqid cid in
    ap (λ (es : List Event). open_cq (with_events es past) q) aborts.are ∙ aborts_leave_cq aborts.region q aborts.indices past

-- a closing queue isn't open
as_open-closing : (o : Option SqEntry) → as_open (option_map as_closing o) ≡ None
as_open-closing None = refl
as_open-closing (Some entry) = refl

-- nor is one that is gone
pub as_open-unless_closing : (o : Option SqEntry) → as_open (unless_closing o) ≡ as_open o
as_open-unless_closing None = refl
as_open-unless_closing (Some entry) = gone entry.closing refl where
  gone : (b : Bool) → entry.closing ≡ b → as_open (unless_closing (Some entry)) ≡ as_open (Some entry)
  gone true e = rw e refl
  gone false e = rw e refl

-- a choice, on both sides
both_ways : {A B : Type 0} (f : A → B) (b : Bool) (x : B) (y : A) (u : B) (v : A) → x ≡ f y → u ≡ f v → (if b then x else u) ≡ f (if b then y else v)
both_ways f true x y u v e g = e
both_ways f false x y u v e g = g

-- the queues that stand after an admin command are those of the table after it
module _ (rules : FrontRules) where
  -- what is left alone agrees
  same_queues : (t u : TableHistory) (past later : Past) → QueuesAre rules t past
      → ((q : ℕ) → open_sq later q ≡ open_sq past q) → ((q : ℕ) → open_cq later q ≡ open_cq past q)
      → ((q : ℕ) → sq_at rules.start u q ≡ sq_at rules.start t q) → ((q : ℕ) → cq_at rules.start u q ≡ cq_at rules.start t q)
      → QueuesAre rules u later
  same_queues t u past later h sq cq sqs cqs = record {
    sq = λ q. sq q ∙ h.sq q ∙ ap as_open (sym (sqs q));
    cq = λ q. cq q ∙ h.cq q ∙ sym (cqs q);
  }

  -- where a queue isn't open, its closing changes nothing
  not_open : (qid q : ℕ) (F : ℕ → Option Queue) → F qid ≡ None → (b : Bool) → (qid == q) ≡ b → F q ≡ (if b then None else F q)
  not_open qid q F none true e = sym (subst (λ (z : ℕ). F z ≡ F q) (sym (eqb-true qid q e)) refl) ∙ none
  not_open qid q F none false e = refl

  not_open_cq : (qid q : ℕ) (F : ℕ → Option ℕ) → F qid ≡ None → (b : Bool) → (qid == q) ≡ b → F q ≡ (if b then None else F q)
  not_open_cq qid q F none true e = sym (subst (λ (z : ℕ). F z ≡ F q) (sym (eqb-true qid q e)) refl) ∙ none
  not_open_cq qid q F none false e = refl

  closes_sq : (past : Past) (qid : ℕ) (o : Option Queue) → open_sq past qid ≡ o → (q : ℕ)
      → open_sq (with_events (closing_of past qid o) past) q ≡ (if qid == q then None else open_sq past q)
  closes_sq past qid None none q = not_open qid q (λ z. open_sq past z) none (qid == q) refl
  closes_sq past qid (Some queue) some q = aborts_leave_sq queue.region q (waiting past queue.region) (Closing qid queue.region ∷ past)

  closes_leave_cq : (past : Past) (qid : ℕ) (o : Option Queue) (q : ℕ) → open_cq (with_events (closing_of past qid o) past) q ≡ open_cq past q
  closes_leave_cq past qid None q = refl
  closes_leave_cq past qid (Some queue) q = aborts_leave_cq queue.region q (waiting past queue.region) (Closing qid queue.region ∷ past)

  closes_cq : (past : Past) (qid : ℕ) (o : Option ℕ) → open_cq past qid ≡ o → (q : ℕ)
      → open_cq (with_events (closed_cq_of qid o) past) q ≡ (if qid == q then None else open_cq past q)
  closes_cq past qid None none q = not_open_cq qid q (λ z. open_cq past z) none (qid == q) refl
  closes_cq past qid (Some region) some q = refl

  closes_leave_sq : (past : Past) (qid : ℕ) (o : Option ℕ) (q : ℕ) → open_sq (with_events (closed_cq_of qid o) past) q ≡ open_sq past q
  closes_leave_sq past qid None q = refl
  closes_leave_sq past qid (Some region) q = refl

  pub step : (t u : TableHistory) (past : Past) (v : Verdict) → QueuesAre rules t past
      → ((q : ℕ) → sq_at rules.start u q ≡ sq_after v (sq_at rules.start t) q) → ((q : ℕ) → cq_at rules.start u q ≡ cq_after v (cq_at rules.start t) q)
      → QueuesAre rules u (with_events (made_by past v) past)
  step t u past (Done status dw0) h sqs cqs = same_queues t u past past h (λ q. refl) (λ q. refl) sqs cqs
  step t u past (verdict.SetArbitration settings) h sqs cqs = same_queues t u past (SetArbitration settings ∷ past) h (λ q. refl) (λ q. refl) sqs cqs
  step t u past (verdict.OpenSq qid region cqid class) h sqs cqs = record {
    sq = λ q. both_ways as_open (qid == q) _ _ _ _ refl (h.sq q) ∙ ap as_open (sym (sqs q));
    cq = λ q. h.cq q ∙ sym (cqs q);
  }
  step t u past (verdict.OpenCq qid region) h sqs cqs = record {
    sq = λ q. h.sq q ∙ ap as_open (sym (sqs q));
    cq = λ q. both_ways (λ z. z) (qid == q) _ _ _ _ refl (h.cq q) ∙ sym (cqs q);
  }
  step t u past (BeginDelete qid) h sqs cqs = record {
    sq = λ q. closes_sq past qid (open_sq past qid) refl q
        ∙ both_ways as_open (qid == q) None (option_map as_closing (sq_at rules.start t q)) (open_sq past q) (sq_at rules.start t q)
        (sym (as_open-closing (sq_at rules.start t q))) (h.sq q)
        ∙ ap as_open (sym (sqs q));
    cq = λ q. closes_leave_cq past qid (open_sq past qid) q ∙ h.cq q ∙ sym (cqs q);
  }
  step t u past (verdict.Abort sqid cid) h sqs cqs =
      same_queues t u past (with_events (abort_of past sqid cid) past) h (aborts_leave_sqs past sqid cid) (aborts_leave_cqs past sqid cid) sqs cqs
  step t u past (CloseCq qid) h sqs cqs = record {
    sq = λ q. closes_leave_sq past qid (open_cq past qid) q ∙ h.sq q ∙ ap as_open (sym (sqs q));
    cq = λ q. closes_cq past qid (open_cq past qid) refl q
        ∙ both_ways (λ z. z) (qid == q) None None (open_cq past q) (cq_at rules.start t q) refl (h.cq q) ∙ sym (cqs q);
  }

  -- a pick of the admin queue, with what its command makes
  pick_step : (t : TableHistory) (past : Past) (e : Option Sqe) → t ≡ table_history rules past → QueuesAre rules t past
      → QueuesAre rules (applied e ++ t) (with_events (made_of rules past e) past)
  pick_step t past None is h = h
  pick_step t past (Some entry) is h =
      let tells = TellsChange-entry rules.start t entry in
      subst (λ (z : TableHistory). QueuesAre rules (EntryApplied entry ∷ t) (with_events (made_by past (verdict_of rules.start z entry)) past)) is
      (step t (EntryApplied entry ∷ t) past (verdict_of rules.start t entry) h tells.sqs tells.cqs)

  -- an event after logs with the same queues
  cons_sq : (e : Event) (past other : Past) → ((q : ℕ) → open_sq past q ≡ open_sq other q) → (q : ℕ) → open_sq (e ∷ past) q ≡ open_sq (e ∷ other) q
  cons_sq (OpenSq qid region cqid class) past other h q =
      ap (λ (z : Option Queue). if qid == q then Some (record { region = region; cqid = cqid; class = class }) else z) (h q)
  cons_sq (Closing qid region) past other h q = ap (λ (z : Option Queue). if qid == q then None else z) (h q)
  cons_sq e past other h q = h q

  cons_cq : (e : Event) (past other : Past) → ((q : ℕ) → open_cq past q ≡ open_cq other q) → (q : ℕ) → open_cq (e ∷ past) q ≡ open_cq (e ∷ other) q
  cons_cq (OpenCq qid region) past other h q = ap (λ (z : Option ℕ). if qid == q then Some region else z) (h q)
  cons_cq (ClosedCq qid region) past other h q = ap (λ (z : Option ℕ). if qid == q then None else z) (h q)
  cons_cq e past other h q = h q

  pub events_sq : (rest : List Event) (past other : Past) → ((q : ℕ) → open_sq past q ≡ open_sq other q) → (q : ℕ) → open_sq (with_events rest past) q ≡ open_sq (with_events rest other) q
  events_sq [] past other h q = h q
  events_sq (e ∷ rest) past other h q = events_sq rest (e ∷ past) (e ∷ other) (cons_sq e past other h) q

  pub events_cq : (rest : List Event) (past other : Past) → ((q : ℕ) → open_cq past q ≡ open_cq other q) → (q : ℕ) → open_cq (with_events rest past) q ≡ open_cq (with_events rest other) q
  events_cq [] past other h q = h q
  events_cq (e ∷ rest) past other h q = events_cq rest (e ∷ past) (e ∷ other) (cons_cq e past other h) q

  -- nothing is left of what is all there
  none_left : (xs rest made : List Event) → xs ≡ made → xs ++ rest ≡ made → rest ≡ []
  none_left xs [] made e f = refl
  none_left xs (y ∷ rest) made e f = absurd (omega (arith, length-append xs (y ∷ rest), ap length e, ap length f))

  -- what is made after a pick, on the log with it
  after_pick : (t : TableHistory) (past : Past) (pick : Event) (rest : List Event) → QueuesAre rules t (with_events rest past)
      → ((q : ℕ) → open_sq (pick ∷ past) q ≡ open_sq past q) → ((q : ℕ) → open_cq (pick ∷ past) q ≡ open_cq past q)
      → QueuesAre rules t (with_events rest (pick ∷ past))
  after_pick t past pick rest h sq cq = record {
    sq = λ q. events_sq rest (pick ∷ past) past sq q ∙ h.sq q;
    cq = λ q. events_cq rest (pick ∷ past) past cq q ∙ h.cq q;
  }

  -- a finished deletion leaves the completion queues
  pub finished_cq : (t : TableHistory) (qid q : ℕ) → cq_at rules.start t q ≡ cq_at rules.start (DeletionFinished qid ∷ t) q
  unfolding effects_of queue_table
  finished_cq t qid q = refl

  -- a finished deletion takes away a queue that was closing
  finished : (qid region : ℕ) (past : Past) → QueuesAre rules (table_history rules past) past
      → QueuesAre rules (DeletionFinished qid ∷ table_history rules past) (ClosedSq qid region ∷ past)
  finished qid region past h = record {
    sq = λ q. h.sq q ∙ gone q (qid == q) ∙ ap as_open (sym (finish-takes_one rules.start (table_history rules past) qid q));
    cq = λ q. h.cq q ∙ finished_cq (table_history rules past) qid q;
  } where
    gone : (q : ℕ) (b : Bool) → as_open (sq_at rules.start (table_history rules past) q)
        ≡ as_open (if b then unless_closing (sq_at rules.start (table_history rules past) q) else sq_at rules.start (table_history rules past) q)
    gone q true = sym (as_open-unless_closing (sq_at rules.start (table_history rules past) q))
    gone q false = refl

  -- the log, with what is left of what its latest picked command makes, has the queues of its table history
  pub sync : StartsWithAdmin rules → (past : Past) → Each (EffectsAtOnce rules) past → (rest : List Event) → effects_since past ++ rest ≡ made_last rules past
      → QueuesAre rules (table_history rules past) (with_events rest past)
  sync starts [] h rest e = subst (λ (z : List Event). QueuesAre rules rules.regions (with_events z [])) (sym e) (record { sq = starts.sq; cq = starts.cq })
  sync starts (Pick seen pick ∷ past) h rest e =
      let before = sync starts past h.1 [] (append-nil (effects_since past) ∙ h.0) in
      subst (λ (z : List Event). QueuesAre rules (table_history rules (Pick seen pick ∷ past)) (with_events z (Pick seen pick ∷ past))) (sym e)
      (by_queue (pick.qid == 0) (after_pick (applied (admin_entry past) ++ table_history rules past) past (Pick seen pick) (made_of rules past (admin_entry past)) (pick_step (table_history rules past) past (admin_entry past) refl before) (λ q. refl) (λ q. refl))
      (after_pick (table_history rules past) past (Pick seen pick) [] before (λ q. refl) (λ q. refl))) where
        by_queue : (b : Bool)
            → QueuesAre rules (applied (admin_entry past) ++ table_history rules past) (with_events (made_of rules past (admin_entry past)) (Pick seen pick ∷ past))
            → QueuesAre rules (table_history rules past) (with_events [] (Pick seen pick ∷ past))
            → QueuesAre rules (if b then applied (admin_entry past) ++ table_history rules past else table_history rules past)
            (with_events (if b then made_of rules past (admin_entry past) else []) (Pick seen pick ∷ past))
        by_queue true x y = x
        by_queue false x y = y
  sync starts (ClosedSq qid region ∷ past) h rest e =
      let before = sync starts past h.1 [] (append-nil (effects_since past) ∙ h.0) in
      subst (λ (z : List Event). QueuesAre rules (DeletionFinished qid ∷ table_history rules past) (with_events z (ClosedSq qid region ∷ past)))
      (sym (none_left (effects_since past) rest (made_last rules past) h.0 e))
      (finished qid region past before)
  sync starts (Fetch region index entry ∷ past) h rest e =
      let before = sync starts past h.1 [] (append-nil (effects_since past) ∙ h.0) in
      subst (λ (z : List Event). QueuesAre rules (table_history rules past) (with_events z (Fetch region index entry ∷ past)))
      (sym (none_left (effects_since past) rest (made_last rules past) h.0 e)) (record { sq = before.sq; cq = before.cq })
  sync starts (Post cq_region region index cqe ∷ past) h rest e =
      let before = sync starts past h.1 [] (append-nil (effects_since past) ∙ h.0) in
      subst (λ (z : List Event). QueuesAre rules (table_history rules past) (with_events z (Post cq_region region index cqe ∷ past)))
      (sym (none_left (effects_since past) rest (made_last rules past) h.0 e)) (record { sq = before.sq; cq = before.cq })
  sync starts (SetArbitration settings ∷ past) h rest e = sync starts past h.1 (SetArbitration settings ∷ rest) (sym (append_assoc (effects_since past) (SetArbitration settings ∷ []) rest) ∙ e)
  sync starts (OpenSq qid region cqid class ∷ past) h rest e = sync starts past h.1 (OpenSq qid region cqid class ∷ rest) (sym (append_assoc (effects_since past) (OpenSq qid region cqid class ∷ []) rest) ∙ e)
  sync starts (OpenCq qid region ∷ past) h rest e = sync starts past h.1 (OpenCq qid region ∷ rest) (sym (append_assoc (effects_since past) (OpenCq qid region ∷ []) rest) ∙ e)
  sync starts (Closing qid region ∷ past) h rest e = sync starts past h.1 (Closing qid region ∷ rest) (sym (append_assoc (effects_since past) (Closing qid region ∷ []) rest) ∙ e)
  sync starts (Abort region index ∷ past) h rest e = sync starts past h.1 (Abort region index ∷ rest) (sym (append_assoc (effects_since past) (Abort region index ∷ []) rest) ∙ e)
  sync starts (ClosedCq qid region ∷ past) h rest e = sync starts past h.1 (ClosedCq qid region ∷ rest) (sym (append_assoc (effects_since past) (ClosedCq qid region ∷ []) rest) ∙ e)

pub queues_are : QueuesAreTheTables
queues_are rules sent past collected starts h = sync rules starts past h.effects_at_once [] (append-nil (effects_since past) ∙ h.effects_whole)
