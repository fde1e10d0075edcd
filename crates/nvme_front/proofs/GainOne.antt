-- What a job that is handed, and a result that is gained, leave.
use Rattle.std.proofs.Common.{◌≡◌, ℕ, ◌+◌, ◌<◌, ◌≤◌, Bool, true, false, List, [], ◌∷◌, length, Some, refl, sym, ap, ◌∙◌, subst, arith, inl, inr}
use Rattle.std.specs.Prelude.{sum_by}
use Rattle.std.proofs.Math.Bridge.{le_prop}
use Rattle.std.proofs.lemmas.Bool.{cases_Bool}
use Rattle.std.proofs.lemmas.List.{length_push}
use Rattle.std.proofs.lemmas.List.Elements.{All-head}
use Rattle.std.proofs.lemmas.List.Sorted.{length_permutation, All-permutation}
use Rattle.std.proofs.lemmas.List.Sums.{sum_by-append, sum_by-cons}
use Rattle.nvme_entry.specs.Outcome.{outcome_of}
use Rattle.nvme_entry.specs.Status.{StatusCode}
use Rattle.nvme_lane.specs.View.{GetView}
use Rattle.nvme_pool.specs.Jobs.{status_of}
use Rattle.nvme_pool.specs.declared.jobs.Finished.{Finished}
use Rattle.nvme_pool.specs.declared.jobs.Job.{Job}
use Rattle.nvme_pool.specs.Seat.{Ends, SameSeat, OneGained}
use Rattle.nvme_log.specs.Limits.{most_events}
use Rattle.nvme_log.specs.Places.{entry_at}
use Rattle.nvme_log.specs.Rules.{Past}
use Rattle.nvme_ctrl_log.specs.Notes.{Answered, Flagged, logged}
use Rattle.nvme_engine.specs.Calls.{HasAnswered}
use Rattle.nvme_engine.specs.declared.engine.Engine.{Engine}
use Rattle.nvme_jobs.specs.Balance.{Balances}
use Rattle.nvme_jobs.specs.Hands.{in_hand, job_in, gained_count}
use Rattle.nvme_jobs.specs.declared.dispatched.Dispatched.{Dispatched}
use Rattle.nvme_jobs.specs.inside.Jobs.{JobsView, HandsOne, GainsOne, GainsStray}
use Rattle.nvme_jobs.specs.inside.Standing.{HoldsJobs}
use Rattle.nvme_jobs.proofs.Balances.{balances-handed, balances-stray, balances-still}
use Rattle.nvme_jobs.proofs.InHand.{in_hand-handed, in_hand-gained, in_hand-strayed}
use Rattle.nvme_jobs.proofs.JobSteps.{jobs-handed, jobs-gained, jobs-strayed, gained-answers}
use Rattle.nvme_jobs.proofs.Leaving.{none-but}
use Rattle.nvme_front.specs.View.{GainedStray}
use Rattle.nvme_front.specs.declared.front.FrontConfig.{FrontConfig}
use Rattle.nvme_front.specs.declared.state.FrontState.{FrontState}
use Rattle.nvme_front.specs.inside.Goes.{Goes, IsSame, HasAdmin}
use Rattle.nvme_front.specs.inside.Room.{IsConsistent, IsRunning, IsTagged}
use Rattle.nvme_front.specs.inside.State.{rules_of, past_of, view_of}
use Rattle.nvme_front.specs.inside.Turn.{Balanced}
use Rattle.nvme_front.proofs.Comes.{comes-same}
use Rattle.nvme_front.proofs.States.{Goes-refl, Goes-same, kept_same, kept_after}
use Rattle.nvme_front.proofs.TagSteps.{tags_kept, outs_same, tags_answered, few_in_hand}

-- ---- the count of results
-- a result more is gained
pub one_gained : (old new : Ends) (x : Finished) → OneGained old new x
    → sum_by (λ (g : GetView Finished). length g.got) new ≡ sum_by (λ (g : GetView Finished). length g.got) old + 1
one_gained old new x o =
    let f : GetView Finished → ℕ = λ (g : GetView Finished). length g.got in
    let before = ap (λ (e : Ends). sum_by f e) o.were ∙ sum_by-append f o.before (o.end ∷ o.after) in
    let now = ap (λ (e : Ends). sum_by f e) o.are ∙ sum_by-append f o.before (o.end' ∷ o.after) in
    let one = ap (λ (xs : List Finished). length xs) o.got ∙ length_push o.end.got x in
    omega (arith, before, now, one, sum_by-cons f o.end o.after, sum_by-cons f o.end' o.after)

-- ---- jobs alone
-- a configuration by its parts, whose limit of events is known again
abbrev pub with_few : (f : FrontConfig) → f.max_events ≤ most_events → FrontConfig
with_few f few = record { mechanism = f.mechanism; settings = f.settings; limits = f.limits; spaces = f.spaces; max_events = f.max_events; few_events = few }

config_by : (f : FrontConfig) (few : f.max_events ≤ most_events) → with_few f few ≡ f
config_by f few = λ t. record { mechanism = f.mechanism; settings = f.settings; limits = f.limits; spaces = f.spaces; max_events = f.max_events; few_events = le_prop few f.few_events t }

-- a front with other jobs
abbrev pub with_jobs : (s : FrontState) → s.config.max_events ≤ most_events → JobsView → FrontState
with_jobs s few jobs = record s { config = with_few s.config few; jobs = jobs }

-- the same jobs are no change
pub same_jobs : (s : FrontState) (few : s.config.max_events ≤ most_events) (jobs : JobsView) → jobs ≡ s.jobs → IsSame s (with_jobs s few jobs)
same_jobs s few jobs same = record { log = refl; sqs = refl; cqs = refl; engine = refl; jobs = same; late = refl; config = config_by s.config few; alloc = refl }

-- where the same commands are in hand, the engine stands as before
jobs_run : (s : FrontState) (few : s.config.max_events ≤ most_events) (jobs : JobsView) → IsRunning s → HoldsJobs s.config.spaces (past_of s) jobs → in_hand jobs.hands ≡ in_hand s.jobs.hands
    → IsRunning (with_jobs s few jobs)
jobs_run s few jobs k holds same = record {
  notes = k.notes;
  stands = k.stands;
  past_is = k.past_is;
  got = k.got;
  sent = k.sent;
  counted = k.counted;
  jobs = holds;
  tags = tags_kept k.notes k.notes s.jobs jobs (outs_same k.notes) same k.tags;
}

-- there is room for the jobs that may be handed
pub jobs_have_room : (s : FrontState) → IsConsistent s → HasAdmin s → length s.jobs.hands.running + length s.jobs.hands.unhanded ≤ s.jobs.room
jobs_have_room s kept admin =
    let k : IsRunning s = kept.running admin in
    let few = few_in_hand (rules_of s) s.late k.notes s.engine s.jobs k.stands k.tags in
    omega (arith, few, kept.roomy.jobs admin.0)

-- ---- a job is handed
module _ (s : FrontState) (few : s.config.max_events ≤ most_events) (jobs : JobsView) (h : HandsOne s.config.spaces s.jobs jobs) where
  -- it is the same front
  handed-goes : Goes s (with_jobs s few jobs)
  handed-goes = subst (λ (j : JobsView). Goes s (with_jobs s few j)) (sym h.are) (record {
    grew = (Goes-refl s).grew;
    config = config_by s.config few;
    alloc = refl;
    late = refl;
    gets = refl;
    puts = refl;
    comes = comes-same s.sqs.items s.sqs.items refl;
    came = refl;
    seat = h.can.same;
    handed = omega (arith, ap (λ (js : List Job). length js) h.can.handed, length_push s.jobs.hands.seat.handed (job_in s.config.spaces h.dispatched));
    gained = omega (arith, ap (λ (e : Ends). sum_by (λ (g : GetView Finished). length g.got) e) h.can.ends);
    room = refl;
  })

  -- and it is kept
  handed-kept : IsConsistent s → HasAdmin s → IsConsistent (with_jobs s few jobs)
  handed-kept kept admin =
      let k : IsRunning s = kept.running admin in
      kept_after s (with_jobs s few jobs) admin kept.roomy handed-goes kept.roomy.few_events
      (jobs_run s few jobs k (jobs-handed s.config.spaces (past_of s) s.jobs jobs h k.jobs) (in_hand-handed s.config.spaces s.jobs jobs h))

module _ (s : FrontState) (few : s.config.max_events ≤ most_events) (jobs : JobsView) (handed : Bool) (none : handed ≡ false → jobs ≡ s.jobs) (one : handed ≡ true → HandsOne s.config.spaces s.jobs jobs) where
  -- a front is the same whether a job was handed or not
  pub hand-goes : Goes s (with_jobs s few jobs)
  hand-goes = elim (cases_Bool handed) [
    | inl was ↦ handed-goes s few jobs (one was)
    | inr not_so ↦ Goes-same s (with_jobs s few jobs) (same_jobs s few jobs (none not_so))
  ]

  -- what was handed waits for its result
  pub hand-balanced : Balanced s (with_jobs s few jobs)
  hand-balanced = elim (cases_Bool handed) [
    | inl was ↦ balances-handed s.config.spaces s.jobs jobs (one was)
    | inr not_so ↦ balances-still s.config.spaces s.jobs jobs (none not_so)
  ]

  -- the same commands are in hand
  pub hand-in_hand : in_hand jobs.hands ≡ in_hand s.jobs.hands
  hand-in_hand = elim (cases_Bool handed) [
    | inl was ↦ in_hand-handed s.config.spaces s.jobs jobs (one was)
    | inr not_so ↦ ap (λ (j : JobsView). in_hand j.hands) (none not_so)
  ]

  -- in the same lanes
  pub hand-ends : jobs.hands.seat.ends ≡ s.jobs.hands.seat.ends
  hand-ends = elim (cases_Bool handed) [
    | inl was ↦ ap (λ (j : JobsView). j.hands.seat.ends) (one was).are ∙ (one was).can.ends
    | inr not_so ↦ ap (λ (j : JobsView). j.hands.seat.ends) (none not_so)
  ]

  -- and is kept
  pub hand-kept : IsConsistent s → HasAdmin s → IsConsistent (with_jobs s few jobs)
  hand-kept k admin = elim (cases_Bool handed) [
    | inl was ↦ handed-kept s few jobs (one was) k admin
    | inr not_so ↦ kept_same s (with_jobs s few jobs) (same_jobs s few jobs (none not_so)) k
  ]

-- a job that is handed is kept no longer
pub handed-fewer : (sizes : List ℕ) (old new : JobsView) → HandsOne sizes old new → length new.hands.unhanded < length old.hands.unhanded
handed-fewer sizes old new h = omega (arith, ap (λ (j : JobsView). length j.hands.unhanded) h.are, ap (λ (ds : List Dispatched). length ds) h.can.oldest)

-- and is one more that was handed
pub handed-more : (sizes : List ℕ) (old new : JobsView) → HandsOne sizes old new → length old.hands.seat.handed < length new.hands.seat.handed
handed-more sizes old new h =
    omega (
      arith,
      ap (λ (j : JobsView). length j.hands.seat.handed) h.are,
      ap (λ (js : List Job). length js) h.can.handed,
      length_push old.hands.seat.handed (job_in sizes h.dispatched),
    )

-- ---- a result of no job is gained
module _ (s : FrontState) (few : s.config.max_events ≤ most_events) (jobs : JobsView) (ticket : ℕ) (h : GainsStray s.config.spaces s.jobs jobs ticket) where
  -- it is the same front
  pub stray-goes : Goes s (with_jobs s few jobs)
  stray-goes = subst (λ (j : JobsView). Goes s (with_jobs s few j)) (sym h.are) (record {
    grew = (Goes-refl s).grew;
    config = config_by s.config few;
    alloc = refl;
    late = refl;
    gets = refl;
    puts = refl;
    comes = comes-same s.sqs.items s.sqs.items refl;
    came = refl;
    seat = h.can.same;
    handed = omega (arith, ap (λ (js : List Job). length js) h.can.handed);
    gained = omega (arith, one_gained s.jobs.hands.seat.ends h.seat.ends h.result h.can.gained);
    room = refl;
  })

  -- and it is kept
  pub stray-kept : IsConsistent s → HasAdmin s → IsConsistent (with_jobs s few jobs)
  stray-kept kept admin =
      let k : IsRunning s = kept.running admin in
      kept_after s (with_jobs s few jobs) admin kept.roomy stray-goes kept.roomy.few_events
      (jobs_run s few jobs k (jobs-strayed s.config.spaces (past_of s) s.jobs jobs ticket h k.jobs) (in_hand-strayed s.config.spaces s.jobs jobs ticket h))

  -- it is seen as such
  pub stray-seen : GainedStray ticket (view_of s) (view_of (with_jobs s few jobs))
  stray-seen = subst (λ (j : JobsView). GainedStray ticket (view_of s) (view_of (with_jobs s few j))) (sym h.are) (record {
    result = h.result;
    ticket_is = h.of_ticket;
    more = omega (arith, one_gained s.jobs.hands.seat.ends h.seat.ends h.result h.can.gained);
    before = h.can.gained.before;
    end = h.can.gained.end';
    after = h.can.gained.after;
    got = h.can.gained.end.got;
    ends_are = h.can.gained.are;
    last = h.can.gained.got;
    of_none = h.of_none;
    stray = subst (λ (j : JobsView). Balances s.config.spaces s.jobs.hands j.hands (h.result ∷ [])) h.are (balances-stray s.config.spaces s.jobs jobs ticket h);
  })

-- ---- a result of a job is gained
-- a result more was gained
gained_one-count : (sizes : List ℕ) (old new : JobsView) (d : Dispatched) (result : Finished) → GainsOne sizes old new d result
    → gained_count new.hands ≡ gained_count old.hands + 1
gained_one-count sizes old new d result h = ap (λ (j : JobsView). gained_count j.hands) h.are ∙ one_gained old.hands.seat.ends h.seat.ends result h.can.gained

-- one command less waits for its result
pub gained-fewer : (sizes : List ℕ) (old new : JobsView) (d : Dispatched) (result : Finished) → GainsOne sizes old new d result
    → length new.hands.running < length old.hands.running
gained-fewer sizes old new d result h =
    omega (arith, ap (λ (j : JobsView). length j.hands.running) h.are, length_permutation old.hands.running (d ∷ h.rest) h.its.running_is)

module _ (s : FrontState) (k : IsRunning s) (jobs : JobsView) (d : Dispatched) (result : Finished) (h : GainsOne s.config.spaces s.jobs jobs d result) where
  -- its command's tag is out
  pub gained_tagged : IsTagged k.notes d
  gained_tagged =
      All-head (IsTagged k.notes) d (in_hand jobs.hands)
      (All-permutation (IsTagged k.notes) (in_hand s.jobs.hands) (d ∷ in_hand jobs.hands) (in_hand-gained s.config.spaces s.jobs jobs d result h) k.tags.each)

  -- with the entry of its place, of which the status comes
  pub gained_entry : entry_at (logged k.notes) d.place.region d.place.index ≡ Some d.entry
  gained_entry =
      ap (λ (p : Past). entry_at p d.place.region d.place.index) k.past_is
      ∙ (gained-answers s.config.spaces (past_of s) s.jobs jobs d result [] h (none-but s.config.spaces (past_of s) s.jobs k.jobs)).0

  pub gained_status : (status : StatusCode) → status ≡ status_of result → status ≡ outcome_of d.entry s.config.spaces
  gained_status status is =
      is ∙ (gained-answers s.config.spaces (past_of s) s.jobs jobs d result [] h (none-but s.config.spaces (past_of s) s.jobs k.jobs)).2

  -- a front whose engine took the answer
  module _ (few : s.config.max_events ≤ most_events) (e : Engine) (status : StatusCode) (answered : HasAnswered (rules_of s) s.late k.notes d.place status e) where
    abbrev gained_front : FrontState
    gained_front = record s { config = with_few s.config few; jobs = jobs; engine = e }

    -- it is the same front
    pub gained-goes : Goes s gained_front
    gained-goes = record {
      grew = (Goes-refl s).grew;
      config = config_by s.config few;
      alloc = refl;
      late = refl;
      gets = refl;
      puts = refl;
      comes = comes-same s.sqs.items s.sqs.items refl;
      came = ap (λ (j : JobsView). j.hands.came) h.are;
      seat = subst (λ (j : JobsView). SameSeat s.jobs.hands.seat j.hands.seat) (sym h.are) h.can.same;
      handed = omega (arith, ap (λ (j : JobsView). length j.hands.seat.handed) h.are, ap (λ (js : List Job). length js) h.can.handed);
      gained = omega (arith, gained_one-count s.config.spaces s.jobs jobs d result h);
      room = ap (λ (j : JobsView). j.room) h.are;
    }

    gained-runs : IsRunning gained_front
    gained-runs = record {
      notes = Flagged d.place.region d.place.index answered.flags ∷ Answered d.place.region d.place.index (record { status = status; dw0 = 0 }) ∷ k.notes;
      stands = answered.stands;
      past_is = k.past_is;
      got = k.got;
      sent = k.sent;
      counted = k.counted;
      jobs = jobs-gained s.config.spaces (past_of s) s.jobs jobs d result h k.jobs;
      tags = tags_answered (rules_of s) s.late k.notes s.engine k.stands d gained_tagged (record { status = status; dw0 = 0 }) answered.flags s.jobs jobs
          (in_hand-gained s.config.spaces s.jobs jobs d result h) k.tags;
    }

    -- and it is kept
    pub gained-kept : IsConsistent s → HasAdmin s → IsConsistent gained_front
    gained-kept kept admin = kept_after s gained_front admin kept.roomy gained-goes kept.roomy.few_events gained-runs
