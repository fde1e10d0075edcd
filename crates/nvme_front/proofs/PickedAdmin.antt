-- A front after a pick of the admin queue, whose command was carried out.
use Rattle.std.proofs.Common.{◌≡◌, ℕ, ◌+◌, ◌<◌, ◌≤◌, Bool, List, [], ◌∷◌, ◌++◌, map, length, take, get_or, Option, Some, None, refl, sym, ap, subst, ◌∙◌, arith, append_assoc}
use Rattle.std.specs.Prelude.{reverse, if◌then◌else◌, ◌==◌, ◌&&◌}
use Rattle.std.proofs.Math.Nat.{min-le_left}
use Rattle.std.proofs.lemmas.List.{length-append, length-map, length-take}
use Rattle.nvme_arbiter.specs.Limits.{highest_count}
use Rattle.nvme_arbiter.specs.declared.pick.Pick.{Pick}
use Rattle.nvme_arbiter.specs.declared.pick.Seen.{Seen}
use Rattle.nvme_admin.specs.declared.verdict.Verdict.{Verdict}
use Rattle.nvme_admin.specs.declared.verdict.Verdict.TheVariants as verdict
use Rattle.nvme_entry.specs.declared.completion.Cqe.{Cqe}
use Rattle.nvme_lane.specs.View.{PutView}
use Rattle.nvme_log.specs.declared.event.Event.{Event}
use Rattle.nvme_log.specs.declared.event.Event.TheVariants as event
use Rattle.nvme_log.specs.Limits.{admin_events}
use Rattle.nvme_log.specs.Rules.{FrontRules, Past}
use Rattle.nvme_log.specs.Queues.{Queue, open_sq, open_cq, pending}
use Rattle.nvme_log.specs.Places.{fetched, waiting, observation_of}
use Rattle.nvme_log.specs.Answers.{Answer}
use Rattle.nvme_log.specs.Completions.{posted_to}
use Rattle.nvme_log.specs.Effects.{made_by, closing_of, closed_cq_of, abort_in, target_of, named}
use Rattle.nvme_log.specs.Histories.{picks_in}
use Rattle.nvme_log.proofs.PickCounts.{picks_in-append}
use Rattle.nvme_log.proofs.Tables.{with_events}
use Rattle.nvme_ctrl_log.specs.Notes.{Notes, Logged, Answered, logged}
use Rattle.nvme_ctrl_log.specs.Steps.{with_logged, with_answer}
use Rattle.nvme_ctrl_log.specs.Tags.{holder, answer_of, is_unanswered}
use Rattle.nvme_ctrl_log.proofs.EffectEvents.{AreEffects, made_are_effects}
use Rattle.nvme_engine.specs.Calls.{MayPick, HasCarriedOut, seen_notes}
use Rattle.nvme_engine.specs.Standing.{StandsAt}
use Rattle.nvme_jobs.specs.inside.Jobs.{JobsView}
use Rattle.nvme_jobs.specs.inside.Standing.{HoldsJobs}
use Rattle.nvme_jobs.proofs.Leaving.{jobs-made}
use Rattle.nvme_front.specs.declared.region.SqRegion.{SqRegion}
use Rattle.nvme_front.specs.declared.state.FrontState.{FrontState}
use Rattle.nvme_front.specs.inside.State.{gets_of, rules_of, past_of, view_of}
use Rattle.nvme_front.specs.inside.Room.{IsConsistent, IsRunning, IsCounted, HoldsTags}
use Rattle.nvme_front.specs.inside.Goes.{Goes, HasAdmin}
use Rattle.nvme_front.specs.inside.Turn.{IsPickOf}
use Rattle.nvme_front.specs.View.{HasPlaces, next_lawful, got_in}
use Rattle.nvme_front.proofs.States.{Goes-log, rules-goes, kept_after}
use Rattle.nvme_front.proofs.Loading.{past-later}
use Rattle.nvme_front.proofs.SameTags.{SameTags, same_out, same_unanswered}
use Rattle.nvme_front.proofs.TagSteps.{KeepsOuts, tags_kept, outs_answered}
use Rattle.nvme_front.proofs.RunningFacts.{admin_there, few_waiting}
use Rattle.nvme_front.proofs.PickedQueue.{may_pick}

-- ---- what an admin command makes
-- it fetches and posts nothing
made-fetched : (es : List Event) (past : Past) (r : ℕ) → AreEffects es → fetched (with_events es past) r ≡ fetched past r
made-fetched [] past r are = refl
made-fetched (event.Fetch region index entry ∷ es) past r are = absurd (cc are.0)
made-fetched (e ∷ es) past r are = made-fetched es (e ∷ past) r are.1

made-posted : (es : List Event) (past : Past) (c : ℕ) → AreEffects es → posted_to (with_events es past) c ≡ posted_to past c
made-posted [] past c are = refl
made-posted (event.Post cq region index cqe ∷ es) past c are = absurd (cc are.0)
made-posted (e ∷ es) past c are = made-posted es (e ∷ past) c are.1

-- nor does it pick
made-picks : (es : List Event) → AreEffects es → picks_in es ≡ 0
made-picks [] are = refl
made-picks (event.Pick seen pick ∷ es) are = absurd (cc are.0)
made-picks (e ∷ es) are = made-picks es are.1

-- the commands that are aborted with a queue are no more than wait in it
few-closing : (past : Past) (qid : ℕ) (o : Option Queue) → ((r : ℕ) → length (waiting past r) ≤ highest_count) → length (closing_of past qid o) ≤ highest_count + 1
few-closing past qid None few = omega arith
few-closing past qid (Some queue) few =
    omega (arith, few queue.region, length-map (waiting past queue.region) (λ (i : ℕ). event.Abort queue.region i))

few-closed : (qid : ℕ) (o : Option ℕ) → length (closed_cq_of qid o) ≤ 1
few-closed qid None = omega arith
few-closed qid (Some region) = omega arith

few-aborted : (past : Past) (cid : ℕ) (o : Option Queue) → length (abort_in past cid o) ≤ 1
few-aborted past cid None = omega arith
few-aborted past cid (Some queue) =
    omega (
      arith,
      length-map (take 1 (named past queue.region cid)) (λ (i : ℕ). event.Abort queue.region i),
      length-take 1 (named past queue.region cid),
      min-le_left 1 (length (named past queue.region cid)),
    )

-- it makes few events
few-made : (past : Past) (v : Verdict) → ((r : ℕ) → length (waiting past r) ≤ highest_count) → length (made_by past v) ≤ highest_count + 1
few-made past (verdict.Done status dw0) few = omega arith
few-made past (verdict.OpenSq qid region cqid class) few = omega arith
few-made past (verdict.OpenCq qid region) few = omega arith
few-made past (verdict.BeginDelete qid) few = few-closing past qid (open_sq past qid) few
few-made past (verdict.CloseCq qid) few = let one = few-closed qid (open_cq past qid) in omega (arith, one)
few-made past (verdict.Abort sqid cid) few = let one = few-aborted past cid (target_of past sqid) in omega (arith, one)
few-made past (verdict.SetArbitration settings) few = omega arith

-- ---- notes
-- the log of notes with what was made in front
logged-made : (es : List Event) (notes : Notes) → logged (with_logged es notes) ≡ with_events es (logged notes)
logged-made [] notes = refl
logged-made (e ∷ es) notes = logged-made es (Logged e ∷ notes)

-- an answer is no event
logged-answer : (index : ℕ) (o : Option Answer) (notes : Notes) → logged (with_answer index o notes) ≡ logged notes
logged-answer index None notes = refl
logged-answer index (Some answer) notes = refl

-- the same tags stand for the same places, and nothing is answered
made-tags : (es : List Event) (notes : Notes) → AreEffects es → SameTags notes (with_logged es notes)
made-tags [] notes are = record { holders = λ t. refl; answers = λ r i. refl }
made-tags (event.Post cq region index cqe ∷ es) notes are = absurd (cc are.0)
made-tags (e ∷ es) notes are =
    let rest = made-tags es (Logged e ∷ notes) are.1 in
    record { holders = rest.holders; answers = rest.answers }

-- the answer of an admin command leaves the tags that are out
module _ (s : FrontState) (k : IsRunning s) (made : Notes) (same : SameTags k.notes made) (index : ℕ) where
  admin-outs : (o : Option Answer) → KeepsOuts k.notes (with_answer index o made)
  admin-outs None = record { outs = same_out k.notes made same; held = λ t out. same.holders t }
  admin-outs (Some answer) =
      let here = outs_answered (rules_of s) s.late k.notes s.engine k.stands index answer in
      record {
        outs = λ t.
            same_unanswered (Answered 0 index answer ∷ k.notes) (Answered 0 index answer ∷ made) (λ r i. answers r i) (holder made t)
            ∙ ap (is_unanswered (Answered 0 index answer ∷ k.notes)) (same.holders t)
            ∙ here.outs t;
        held = λ t out. same.holders t;
      } where
        answers : (r i : ℕ) → answer_of (Answered 0 index answer ∷ made) r i ≡ answer_of (Answered 0 index answer ∷ k.notes) r i
        answers r i = ap (λ (o : Option Answer). if 0 == r && index == i then Some answer else o) (same.answers r i)

-- ---- the pick
-- a pick of the admin queue was logged, and its command carried out. All else is as it was
pub record PickedAdmin (s b : FrontState) (pick : Pick) (seen : List Seen) : Type 0 where
  pub carried : (rules : FrontRules) (late : Bool) (notes : Notes) → StandsAt rules late notes s.engine → MayPick rules notes pick → pick.qid ≡ 0
      → HasCarriedOut rules late notes pick (s.log.items ++ event.Pick seen pick ∷ []) b.log.items b.engine
  pub seen_is : seen ≡ observation_of (past_of s)
  pub within : length s.log.items + admin_events ≤ s.config.max_events
  pub sqs : b.sqs.items ≡ s.sqs.items
  pub cqs : b.cqs.items ≡ s.cqs.items
  pub jobs : b.jobs ≡ s.jobs
  pub late : b.late ≡ s.late
  pub config : b.config ≡ s.config
  pub alloc : b.alloc ≡ s.alloc

module _ (s b : FrontState) (pick : Pick) (seen : List Seen) (p : PickedAdmin s b pick seen) (kept : IsConsistent s) (admin : HasAdmin s)
    (next : next_lawful (view_of s) ≡ Some pick) (none : pending (past_of s) ≡ None) (of_admin : pick.qid ≡ 0) (places : HasPlaces (rules_of s) (past_of s) pick) where
  k : IsRunning s
  k = kept.running admin

  did : HasCarriedOut (rules_of s) s.late k.notes pick (s.log.items ++ event.Pick seen pick ∷ []) b.log.items b.engine
  did = p.carried (rules_of s) s.late k.notes k.stands (may_pick s k pick next none places) of_admin

  -- what it made
  made : List Event
  made = made_by (past_of s) did.verdict

  are : AreEffects made
  unfolding made
  are = made_are_effects (past_of s) did.verdict

  log : b.log.items ≡ s.log.items ++ event.Pick seen pick ∷ made
  unfolding made
  log = did.log_is ∙ ap (λ (x : Past). (s.log.items ++ event.Pick seen pick ∷ []) ++ made_by x did.verdict) k.past_is ∙ append_assoc s.log.items (event.Pick seen pick ∷ []) made

  past : past_of b ≡ with_events made (event.Pick seen pick ∷ past_of s)
  past = ap (λ (xs : List Event). reverse xs) log ∙ past-later (event.Pick seen pick ∷ made) s.log.items

  pub admin-goes_on : Goes s b
  admin-goes_on = Goes-log s b (event.Pick seen pick ∷ made) log p.config p.alloc p.late p.sqs p.cqs p.jobs

  abbrev later : Notes
  later = with_answer did.index did.answer (with_logged (made_by (logged k.notes) did.verdict) (seen_notes k.notes pick))

  past_is : logged later ≡ past_of b
  unfolding made
  past_is =
      logged-answer did.index did.answer (with_logged (made_by (logged k.notes) did.verdict) (seen_notes k.notes pick))
      ∙ logged-made (made_by (logged k.notes) did.verdict) (seen_notes k.notes pick)
      ∙ ap (λ (x : Past). with_events (made_by x did.verdict) (event.Pick (observation_of x) pick ∷ x)) k.past_is
      ∙ ap (λ (xs : List Seen). with_events (made_by (past_of s) did.verdict) (event.Pick xs pick ∷ past_of s)) (sym p.seen_is)
      ∙ sym past

  tags : HoldsTags later s.jobs
  tags =
      tags_kept k.notes later s.jobs s.jobs
      (admin-outs s k (with_logged (made_by (logged k.notes) did.verdict) (seen_notes k.notes pick))
      (let same = made-tags (made_by (logged k.notes) did.verdict) (seen_notes k.notes pick) (made_are_effects (logged k.notes) did.verdict) in
      record { holders = same.holders; answers = same.answers }) did.index did.answer)
      refl k.tags

  -- the front runs at its log
  running : IsRunning b
  unfolding made
  running = record {
    notes = later;
    stands = subst (λ (x : Bool). StandsAt (rules_of b) x later b.engine) (sym p.late)
        (subst (λ (x : FrontRules). StandsAt x s.late later b.engine) (sym (rules-goes s b admin-goes_on)) did.stands);
    past_is = past_is;
    got = λ x. ap (λ (z : Past). fetched z x) past ∙ made-fetched made (event.Pick seen pick ∷ past_of s) x are ∙ k.got x
        ∙ ap (λ (sqs : List SqRegion). got_in (record (view_of s) { gets = gets_of sqs }) x) (sym p.sqs);
    sent = λ c. ap (λ (z : Past). posted_to z c) past ∙ made-posted made (event.Pick seen pick ∷ past_of s) c are ∙ k.sent c
        ∙ ap (λ (ps : List (PutView Cqe)). get_or (map (λ (y : PutView Cqe). y.sent) ps) c []) (sym p.cqs);
    counted = subst (λ (sqs : List SqRegion). (i : ℕ) (x : SqRegion) → i < length sqs → IsCounted (get_or sqs i x)) (sym p.sqs) k.counted;
    jobs = subst (λ (z : Past). HoldsJobs b.config.spaces z b.jobs) (sym past)
        (subst (λ (sizes : List ℕ). HoldsJobs sizes (with_events made (event.Pick seen pick ∷ past_of s)) b.jobs) (ap (λ z. z.spaces) (sym p.config))
        (subst (λ (j : JobsView). HoldsJobs s.config.spaces (with_events made (event.Pick seen pick ∷ past_of s)) j) (sym p.jobs)
        (jobs-made s.config.spaces (past_of s) seen pick did.verdict s.jobs of_admin (admin_there s k admin) k.jobs)));
    tags = subst (λ (j : JobsView). HoldsTags later j) (sym p.jobs) tags;
  }

  -- so it is kept
  pub admin-kept : IsConsistent b
  unfolding made
  admin-kept =
      let few = few-made (past_of s) did.verdict (few_waiting s k) in
      let short : length b.log.items ≤ b.config.max_events =
      omega (arith, ap (λ (xs : List Event). length xs) log, length-append s.log.items (event.Pick seen pick ∷ made), few, ap (λ z. z.max_events) p.config, p.within) in
      kept_after s b admin kept.roomy admin-goes_on short running

  -- a pick more was made
  pub admin-picked : picks_in b.log.items ≡ picks_in s.log.items + 1
  admin-picked =
      let one : picks_in (event.Pick seen pick ∷ made) ≡ 1 = ap (λ (n : ℕ). n + 1) (made-picks made are) in
      ap (λ (xs : List Event). picks_in xs) log ∙ picks_in-append s.log.items (event.Pick seen pick ∷ made) ∙ ap (λ (n : ℕ). picks_in s.log.items + n) one

  pub admin-picks_of : IsPickOf s b
  admin-picks_of = record {
    seen = seen;
    pick = pick;
    after = made;
    log_is = log;
    room = λ _. p.within;
    places = places;
    cqs = p.cqs;
    posted = λ io. absurd (io of_admin);
  }
