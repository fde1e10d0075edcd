-- The pick of an engine: of an I/O queue, and of the admin queue.
use Rattle.std.proofs.Common.{◌≡◌, ◌≢◌, ℕ, ◌≤◌, false, option_and_then, ◌&&◌, ◌+◌, ◌<◌, Bool, true, List, [], ◌∷◌, ◌++◌, length, Option, Some, None, max, min, refl, sym, ap, ◌∙◌, subst, arith, append-nil, eq-eqb}
use Rattle.std.specs.Prelude.{slice_get}
use Rattle.nvme_entry.specs.AdminCommand.{admin_command_of}
use Rattle.nvme_entry.specs.declared.admin.AdminCommand.{AdminCommand}
use Rattle.nvme_entry.specs.declared.submission.Sqe.{Sqe}
use Rattle.nvme_arbiter.specs.Limits.{highest_count}
use Rattle.nvme_arbiter.specs.Lawful.{IsLawfulRun}
use Rattle.nvme_arbiter.specs.declared.pick.Pick.{Pick}
use Rattle.nvme_admin.specs.History.{Placing}
use Rattle.nvme_admin.specs.declared.effect.Effect.{Effect}
use Rattle.nvme_admin.specs.declared.effect.Effect.TheVariants as effect
use Rattle.nvme_admin.specs.declared.verdict.Verdict.{Verdict}
use Rattle.nvme_admin.specs.declared.verdict.Verdict.TheVariants as verdict
use Rattle.nvme_admin.specs.Effects.{verdict_in}
use Rattle.nvme_placing.specs.Telling.{IsToldBy}
use Rattle.nvme_log.specs.declared.event.Event.{Event}
use Rattle.nvme_log.specs.declared.event.Event.TheVariants as event
use Rattle.nvme_log.specs.Rules.{FrontRules, Past, Each}
use Rattle.nvme_log.specs.Queues.{Queue, open_sq}
use Rattle.nvme_log.specs.Places.{waiting, entry_at}
use Rattle.nvme_log.specs.Answers.{Answer}
use Rattle.nvme_log.specs.Histories.{arbitration_of}
use Rattle.nvme_log.specs.Effects.{is_effect, made_by, closing_of, closed_cq_of}
use Rattle.nvme_log.specs.Dispatches.{dispatched_by}
use Rattle.nvme_log.specs.Account.{Deletes}
use Rattle.nvme_log.specs.declared.place.Place.{Place}
use Rattle.nvme_ctrl_log.specs.Next.{EachNext}
use Rattle.nvme_ctrl_log.specs.Notes.{Notes, logged}
use Rattle.nvme_ctrl_log.specs.Deletions.{FollowsDeletions}
use Rattle.nvme_ctrl_log.specs.Making.{placing_in, placed, placed_by}
use Rattle.nvme_ctrl.specs.Own.{own_of, oldest_is_own}
use Rattle.nvme_ctrl.specs.declared.own.OwnCommands.{OwnCommands}
use Rattle.nvme_ctrl_log.specs.Tags.{handed, taken}
use Rattle.nvme_ctrl_log.specs.Steps.{IsNextPick, LacksRoom, NamesQueues, IsVerdictOf, with_logged, with_answer}
use Rattle.nvme_ctrl.specs.Steps.{HasStepped, HasDone}
use Rattle.nvme_ctrl.specs.Standing as ctrl
use Rattle.nvme_ctrl.specs.declared.picks.Step.{Step}
use Rattle.nvme_ctrl.specs.declared.picks.Step.TheVariants as step
use Rattle.nvme_ctrl_content.specs.Standing.{Holds}
use Rattle.nvme_ctrl_log.proofs.LaterEvents.{with_events}
use Rattle.nvme_ctrl_content.proofs.DeletedQueues.{undeleted_region}
use Rattle.nvme_ctrl_log.proofs.EffectEvents.{AreEffects, made_are_effects, made_delete}
use Rattle.nvme_ctrl.proofs.LaterNotes.{logged-with}
use Rattle.nvme_ctrl_content.proofs.OpenQueues.{not_closed_region}
use Rattle.nvme_log.specs.Aborts.{took_abort, is_abort_entry, places_for}
use Rattle.nvme_log.specs.Completions.{outstanding}
use Rattle.nvme_log.specs.Limits.{max_outstanding}
use Rattle.nvme_log.specs.Places.{observation_of}
use Rattle.nvme_log.proofs.AbortEntries.{delete_is_no_abort}
use Rattle.nvme_ctrl_content.proofs.Observing.{IsPickable}
use Rattle.nvme_engine.proofs.MadePlaces.{picked_leaves, made_leave_places}
use Rattle.nvme_engine.specs.Standing.{OpensBelow, StandsAt, HasPlaces, BeginsAlone, ServesItsQueues, DeletesItsQueue}
use Rattle.nvme_engine.specs.Calls.{MayPick, HasPicked, HasCarriedOut, seen_notes}
use Rattle.nvme_engine.specs.Making.{made_in, dropped_in, above_opened, IsEnding}
use Rattle.nvme_engine.specs.declared.admin.Ending.{Ending}
use Rattle.nvme_engine.specs.declared.engine.Engine.{Engine}
use Rattle.nvme_engine.proofs.Additions.{on_regions}
use Rattle.nvme_engine.proofs.AdminQueues.{kept_made, begins_made}
use Rattle.nvme_engine.proofs.Calls.{Leaves, same_few, same_pool}
use Rattle.nvme_engine.proofs.OpenBounds.{few_made}
use Rattle.nvme_engine.proofs.NoneOwn.{oldest_isnt_own}
use Rattle.nvme_engine.proofs.NextPicks.{next_is, within_is, whole_next, observes, same_pick, same_notes, next_open, same_outstanding, due}
use Rattle.nvme_engine.proofs.QuietNotes.{IsQuiet, quiet_more, quiet_effects, quiet_pick, quiet_answer, stands_quiet}

-- ---- deletions
-- what an admin command makes follows a front's order of deletions
deletes_next : (rest : List Event) (past : Past) → AreEffects rest → EachNext FollowsDeletions rest past → Each Deletes past → Each Deletes (with_events rest past)
deletes_next [] past are each h = h
deletes_next (e ∷ rest) past are each h = deletes_next rest (e ∷ past) are.1 each.1 (one e are.0 each.0, h) where
  one : (e : Event) → is_effect e ≡ true → FollowsDeletions past e → Deletes past e
  one (event.Abort r i) is follows = follows
  one (event.Fetch r i entry) is follows = absurd (cc is)
  one (event.Pick seen pick) is follows = absurd (cc is)
  one (event.Post c r i cqe) is follows = absurd (cc is)
  one (event.ClosedSq qid r) is follows = absurd (cc is)
  one e is follows = tt

-- and picks nothing
lawful_effects : (rules : FrontRules) (es : List Event) (past : Past) → AreEffects es → IsLawfulRun rules.mechanism rules.start.settings (arbitration_of past)
    → IsLawfulRun rules.mechanism rules.start.settings (arbitration_of (with_events es past))
lawful_effects rules [] past are h = h
lawful_effects rules (e ∷ es) past are h = lawful_effects rules es (e ∷ past) are.1 (one e are.0) where
  one : (e : Event) → is_effect e ≡ true → IsLawfulRun rules.mechanism rules.start.settings (arbitration_of (e ∷ past))
  one (event.Pick seen pick) is = absurd (cc is)
  one e is = h

-- an answer is no event
logged-answer : (i : ℕ) (o : Option Answer) (notes : Notes) → logged (with_answer i o notes) ≡ logged notes
logged-answer i None notes = refl
logged-answer i (Some answer) notes = refl

-- a pick is some event, whatever is made after it
some_logged : (es : List Event) (e : Event) (past : Past) → with_events es (e ∷ past) ≡ [] → ⊥
some_logged [] e past is = cc is
some_logged (x ∷ es) e past is = some_logged es x (e ∷ past) is

module _ (rules : FrontRules) (late : Bool) (notes : Notes) (e now : Engine) (s : StandsAt rules late notes e) (pick : Pick) (may : MayPick rules notes pick)
    (left : Leaves e now) where
  abbrev past : Past
  past = logged notes

  -- ---- what the controller doesn't do
  not_idle : IsNextPick s.their notes None → ⊥
  not_idle next = let both : None ≡ Some pick = next_is rules late notes [] e s None next ∙ may.next in cc both

  not_busy : length (taken notes) < length (handed notes) → ⊥
  not_busy busy =
      let same = ap (λ (ps : List Place). length ps) (s.untaken ∙ append-nil (taken notes)) in
      omega (arith, busy, same)

  not_full : LacksRoom s.their notes highest_count → ⊥
  not_full full = omega (arith, full.none)

  same : (other : Pick) → IsNextPick s.their notes (Some other) → other ≡ pick
  same other next = same_pick rules late notes [] e s pick other may.next next

  no_placing : placing_in s.their ≡ None
  no_placing = on_regions s.their s.alike.adds

  rules_left : (v : Verdict) (entry : Sqe) → placed v entry s.their ≡ s.their
  rules_left v entry = ap (λ (o : Option Placing). placed_by o v entry s.their) no_placing

  -- the picks with the next one are lawful
  lawful_next : IsLawfulRun s.their.mechanism s.their.start.settings (arbitration_of (logged (seen_notes notes pick)))
  lawful_next = (observes rules late notes [] e s, whole_next rules late notes [] e s ∙ may.next, s.lawful)

  -- its places are free
  places_free : outstanding s.their past + places_for past pick ≤ max_outstanding
  places_free = let same = same_outstanding rules late notes [] e s in omega (arith, same, may.places)

  abbrev its : IsPickable past s.stands.content pick
  its = due rules late notes [] e s pick may.next

  places_picked : HasPlaces s.their (logged (seen_notes notes pick))
  places_picked = picked_leaves s.their s.their_late past s.stands.content s.stands.holds (observation_of past) pick its.queue its.is_open its.enough its.one_of_admin places_free s.places

  -- ---- a pick of an I/O queue
  -- its controller picks, and its engine stands
  picked_io : ctrl.Stands s.their s.their_late (seen_notes notes pick) now.controller now.slots.items → HasPicked rules late notes pick now
  picked_io stands =
      let at = next_open rules late notes [] e s pick may.next in
      record {
        queue = at.queue;
        is_open = at.is;
        stands = record {
          their = s.their;
          their_late = s.their_late;
          alike = s.alike;
          in_time = s.in_time;
          stands = stands;
          plain = record { none_passed = s.plain.none_passed; none_arranged = s.plain.none_arranged; deletes = (may.none_pending, s.plain.deletes); alone = (tt, s.plain.alone) };
          sq_rings = s.sq_rings;
          cq_rings = s.cq_rings;
          served = s.served;
          named = s.named;
          few = same_few e now past left s.few;
          begun = λ none. absurd (cc none);
          rung = s.rung;
          read = s.read;
          cookies = s.cookies;
          answers = s.answers;
          untaken = ap (λ (ps : List Place). ps ++ dispatched_by past pick (open_sq past pick.qid)) (s.untaken ∙ append-nil (taken notes))
              ∙ ap (λ (o : Option Queue). taken notes ++ dispatched_by past pick o) at.is;
          lawful = lawful_next;
          places = places_picked;
          pool = same_pool e now left s.pool;
          depths = left.depths ∙ s.depths;
          own = left.own ∙ s.own;
        };
      }

  pub has_picked : (io : pick.qid ≢ 0) (did : Step) → HasStepped s.their s.their_late notes highest_count did now.controller now.slots.items → HasPicked rules late notes pick now
  has_picked io step.Idle h = absurd (not_idle h.1)
  has_picked io step.Busy h = absurd (not_busy h.1)
  has_picked io step.NoRoom h = absurd (not_full h.1)
  has_picked io (step.Picked other) h =
      picked_io (subst (λ (x : Notes). ctrl.Stands s.their s.their_late x now.controller now.slots.items) (same_notes rules late notes [] e s pick other (same other (within_is rules late notes [] e s other h.0))) h.1)
  has_picked io (step.Passed other) h = absurd (io (ap (λ (p : Pick). p.qid) (sym (same other h.next)) ∙ h.of_admin))
  has_picked io (step.Done did entry) h =
      let next : IsNextPick s.their notes (Some h.carried_out.pick) =
      subst (λ (x : FrontRules). IsNextPick x notes (Some h.carried_out.pick)) (rules_left h.verdict entry) h.carried_out.next in
      absurd (io (ap (λ (p : Pick). p.qid) (sym (same h.carried_out.pick next)) ∙ h.carried_out.of_admin))

  -- ---- a pick of the admin queue
  -- what was made is what the verdict makes
  made_is : (did : Effect) (entry : Sqe) (ending : Ending) → NamesQueues past did → IsVerdictOf (admin_command_of entry) (verdict_in did) → IsEnding past (admin_command_of entry) ending
      → made_in did ending ≡ made_by past (verdict_in did)
  made_is (effect.Done status dw0) entry ending names command ends = refl
  made_is (effect.OpenSq qid region cqid cq_region class) entry ending names command ends = refl
  made_is (effect.OpenCq qid region) entry ending names command ends = refl
  made_is (effect.BeginDelete qid region) entry ending names command ends =
      ap (λ (r : ℕ). event.Closing qid r ∷ dropped_in r ending) (sym names.on)
      ∙ ap (λ (es : List Event). event.Closing qid names.queue.region ∷ es) (subst (λ (c : AdminCommand). IsEnding past c ending) command ends names.queue names.is_open)
      ∙ ap (closing_of past qid) (sym names.is_open)
  made_is (effect.CloseCq qid region) entry ending names command ends = ap (closed_cq_of qid) (sym names)
  made_is (effect.Abort sqid cid) entry ending names command ends = subst (λ (c : AdminCommand). IsEnding past c ending) command ends
  made_is (effect.SetArbitration settings) entry ending names command ends = refl

  -- it is carried out
  pub is_carried_out : pick.qid ≡ 0 → (did : Step) → HasStepped s.their s.their_late notes highest_count did now.controller now.slots.items
      → ((other : Pick) → did ≡ step.Picked other → other.qid ≢ 0) → ((other : Pick) → did ≡ step.Passed other → oldest_is_own (own_of e.controller) notes ≡ Some true)
      → ((did_effect : Effect) (entry : Sqe) → did ≡ step.Done did_effect entry → ⊥) → ⊥
  is_carried_out admin step.Idle h io passed other = not_idle h.1
  is_carried_out admin step.Busy h io passed other = not_busy h.1
  is_carried_out admin step.NoRoom h io passed other = not_full h.1
  is_carried_out admin (step.Picked p) h io passed other = io p refl (ap (λ (x : Pick). x.qid) (same p (within_is rules late notes [] e s p h.0)) ∙ admin)
  is_carried_out admin (step.Passed p) h io passed other = oldest_isnt_own notes (ap (λ (o : OwnCommands). oldest_is_own o notes) (sym s.own) ∙ passed p refl)
  is_carried_out admin (step.Done did_effect entry) h io passed other = other did_effect entry refl

  module _ (admin : pick.qid ≡ 0) (old new : List Event) (ending : Ending)
      (ends : (index : ℕ) (entry : Sqe) → slice_get (waiting past 0) 0 ≡ Some index → entry_at past 0 index ≡ Some entry → IsEnding past (admin_command_of entry) ending) where
    module _ (v : Verdict) (i : ℕ) (o : Option Answer) (oldest : slice_get (waiting past 0) 0 ≡ Some i)
        (deletes : (qid : ℕ) → v ≡ verdict.BeginDelete qid → took_abort (event.Pick (observation_of past) pick ∷ past) ≡ false) where
      abbrev picked : Notes
      picked = seen_notes notes pick

      abbrev later : Notes
      later = with_answer i o (with_logged (made_by past v) picked)

      later_is : logged later ≡ with_events (made_by past v) (logged picked)
      later_is = logged-answer i o (with_logged (made_by past v) picked) ∙ logged-with (made_by past v) picked

      quiet : IsQuiet s.their notes later
      quiet =
          let first = quiet_pick s.their notes _ pick admin in
          let next = quiet_effects s.their (made_by past v) picked (made_are_effects past v) in
          quiet_more s.their notes (with_logged (made_by past v) picked) later (quiet_more s.their notes picked (with_logged (made_by past v) picked) first next)
          (quiet_answer s.their (with_logged (made_by past v) picked) i o
          (λ none. some_logged (made_by past v) _ past (sym (logged-with (made_by past v) picked) ∙ none)))

      follows : Each Deletes (logged later)
      follows =
          subst (Each Deletes) (sym later_is)
          (deletes_next (made_by past v) (logged picked) (made_are_effects past v)
          (made_delete past (logged picked) v (λ q queue is. (
            undeleted_region s.their s.their_late past s.stands.content s.stands.holds q queue is,
            not_closed_region s.their s.their_late past s.stands.content s.stands.holds q queue is,
          )))
          (may.none_pending, s.plain.deletes))

      alone : Each BeginsAlone (logged later)
      alone = subst (Each BeginsAlone) (sym later_is) (begins_made past _ pick i v may.none_pending admin oldest s.plain.alone)

      stands_later : (n : ℕ) → OpensBelow (logged later) n → ctrl.Stands s.their s.their_late later now.controller now.slots.items → StandsAt rules late later (record now { queues = n })
      stands_later n few stands =
          let kept = kept_made s.their s.their_late past s.stands.content s.stands.holds s.served may.none_pending _ pick v s.their s.their_late stands.content
          (subst (λ (x : Past). Holds s.their s.their_late x stands.content) later_is stands.holds) in
          stands_quiet rules late notes later [] e now s quiet n few follows alone (subst (λ (x : Past). ServesItsQueues x) (sym later_is) kept.0) (subst (λ (x : Past). DeletesItsQueue x) (sym later_is) kept.1)
          (subst (λ (x : Past). IsLawfulRun s.their.mechanism s.their.start.settings (arbitration_of x)) (sym later_is)
          (lawful_effects s.their (made_by past v) (logged picked) (made_are_effects past v) lawful_next))
          (subst (HasPlaces s.their) (sym later_is)
          (made_leave_places s.their s.their_late past s.stands.content s.stands.holds (observation_of past) pick its.queue its.is_open its.enough its.one_of_admin places_free s.places admin
          v deletes s.their_late stands.content (subst (λ (x : Past). Holds s.their s.their_late x stands.content) later_is stands.holds)))
          stands left

    -- whether the pick took an Abort command, by its entry
    took_by_entry : (entry : Sqe) (index : ℕ) → slice_get (waiting past 0) 0 ≡ Some index → entry_at past 0 index ≡ Some entry
        → took_abort (event.Pick (observation_of past) pick ∷ past) ≡ is_abort_entry (Some entry)
    took_by_entry entry index oldest there =
        ap (λ (b : Bool). b && is_abort_entry (option_and_then (entry_at past 0) (slice_get (waiting past 0) 0))) (eq-eqb pick.qid 0 admin)
        ∙ ap (λ (x : Option ℕ). is_abort_entry (option_and_then (entry_at past 0) x)) oldest ∙ ap (λ (x : Option Sqe). is_abort_entry x) there

    pub carried : (did : Effect) (entry : Sqe) → HasDone s.their s.their_late notes did entry now.controller now.slots.items → NamesQueues past did → IsVerdictOf (admin_command_of entry) (verdict_in did)
        → new ≡ old ++ made_in did ending → (n : ℕ) → n ≡ max e.queues (min (above_opened did) 65535) → HasCarriedOut rules late notes pick old new (record now { queues = n })
    carried did entry h names command log_is n bound =
        let v : Verdict = h.verdict in
        let done = h.carried_out in
        let told : verdict_in did ≡ v = subst (λ (p : Option Placing). IsToldBy p (verdict_in did) v) no_placing h.told in
        let made : made_in did ending ≡ made_by past v = made_is did entry ending names command (ends done.index entry done.oldest h.its_entry) ∙ ap (made_by past) told in
        let next : IsNextPick s.their notes (Some done.pick) = subst (λ (x : FrontRules). IsNextPick x notes (Some done.pick)) (rules_left v entry) done.next in
        let no_abort : (qid : ℕ) → v ≡ verdict.BeginDelete qid → took_abort (event.Pick (observation_of past) pick ∷ past) ≡ false =
        λ qid is. took_by_entry entry done.index done.oldest h.its_entry ∙ delete_is_no_abort entry qid (subst (IsVerdictOf (admin_command_of entry)) (told ∙ is) command) in
        let stands : ctrl.Stands s.their s.their_late (later v done.index done.answer done.oldest no_abort) now.controller now.slots.items =
        subst (λ (x : FrontRules). ctrl.Stands x s.their_late (later v done.index done.answer done.oldest no_abort) now.controller now.slots.items) (rules_left v entry)
        (subst (λ (x : Notes). ctrl.Stands (placed v entry s.their) s.their_late (with_answer done.index done.answer (with_logged (made_by past v) x)) now.controller now.slots.items)
        (same_notes rules late notes [] e s pick done.pick (same done.pick next)) done.stands) in
        let is : logged (later v done.index done.answer done.oldest no_abort) ≡ with_events (made_in did ending) (logged (seen_notes notes pick)) =
        later_is v done.index done.answer done.oldest no_abort ∙ ap (λ (es : List Event). with_events es (logged (seen_notes notes pick))) (sym made) in
        let few : OpensBelow (logged (later v done.index done.answer done.oldest no_abort)) n =
        few_made s.their s.their_late _ now.controller now.slots.items stands (logged (seen_notes notes pick)) ending did is e.queues s.few n bound in
        record {
          index = done.index;
          oldest = done.oldest;
          verdict = v;
          log_is = log_is ∙ ap (λ (es : List Event). old ++ es) made;
          answer = done.answer;
          stands = stands_later v done.index done.answer done.oldest no_abort n few stands;
        }
