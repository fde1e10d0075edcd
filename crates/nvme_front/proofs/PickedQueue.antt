-- A front after a pick of an I/O queue, whose jobs are then to be handed.
use Rattle.std.proofs.Common.{◌≡◌, ◌≢◌, ℕ, ◌+◌, ◌<◌, ◌≤◌, Bool, List, [], ◌∷◌, ◌++◌, map, length, take, get_or, Some, None, refl, sym, ap, subst, ◌∙◌, arith}
use Rattle.std.specs.Prelude.{reverse, if◌then◌else◌}
use Rattle.std.proofs.Math.Nat.{min-eq_left}
use Rattle.std.proofs.lemmas.Bool.{ne_eqb}
use Rattle.std.proofs.lemmas.List.{length_push, length-take}
use Rattle.std.proofs.lemmas.Option.{same_Some}
use Rattle.nvme_arbiter.specs.declared.pick.Pick.{Pick}
use Rattle.nvme_arbiter.specs.declared.pick.Seen.{Seen}
use Rattle.nvme_entry.specs.declared.completion.Cqe.{Cqe}
use Rattle.nvme_lane.specs.View.{PutView}
use Rattle.nvme_pool.specs.Seat.{SameSeat, SeatView}
use Rattle.nvme_log.specs.declared.event.Event.{Event}
use Rattle.nvme_log.specs.declared.event.Event.TheVariants as event
use Rattle.nvme_log.specs.declared.place.Place.{Place}
use Rattle.nvme_log.specs.Limits.{max_outstanding}
use Rattle.nvme_log.specs.Rules.{FrontRules, Past}
use Rattle.nvme_log.specs.Queues.{Queue, open_sq, pending}
use Rattle.nvme_log.specs.Places.{fetched, waiting, observation_of}
use Rattle.nvme_log.specs.Aborts.{places_for}
use Rattle.nvme_log.specs.Completions.{outstanding, posted_to}
use Rattle.nvme_log.specs.Dispatches.{place_at, dispatched_by}
use Rattle.nvme_ctrl_log.specs.Notes.{Notes, logged}
use Rattle.nvme_engine.specs.Calls.{MayPick, HasPicked, seen_notes}
use Rattle.nvme_engine.specs.Standing.{StandsAt, StandsBut, IsEngine}
use Rattle.nvme_engine.specs.declared.engine.Engine.{Engine}
use Rattle.nvme_jobs.specs.Hands.{gained_count}
use Rattle.nvme_jobs.specs.inside.Jobs.{JobsView}
use Rattle.nvme_jobs.specs.inside.Standing.{HoldsJobs, HoldsJobsBut}
use Rattle.nvme_jobs.proofs.JobSteps.{jobs-picked}
use Rattle.nvme_front.specs.declared.region.SqRegion.{SqRegion}
use Rattle.nvme_front.specs.declared.state.FrontState.{FrontState}
use Rattle.nvme_front.specs.inside.Dispatching.{AreDispatched, HasDispatched, taken_notes}
use Rattle.nvme_front.specs.inside.State.{gets_of, rules_of, past_of, view_of}
use Rattle.nvme_front.specs.inside.Room.{IsConsistent, IsRunning, IsCounted, HoldsTags}
use Rattle.nvme_front.specs.inside.Goes.{coming_at, Goes, HasAdmin}
use Rattle.nvme_front.specs.inside.Turn.{IsPickOf}
use Rattle.nvme_front.specs.Ends.{get_place, put_place}
use Rattle.nvme_front.specs.View.{NoneCanBePosted, HasPlaces, next_lawful, got_in}
use Rattle.nvme_front.proofs.Comes.{comes-same}
use Rattle.nvme_front.proofs.States.{past-push, rules-goes, kept_after, SameSeat-refl}
use Rattle.nvme_front.proofs.SameTags.{tags_stay}
use Rattle.nvme_front.proofs.RunningFacts.{IsOpenOn, due, next_is, few_picks}
use Rattle.nvme_front.proofs.TakenCommands.{logged-taken}
use Rattle.nvme_front.proofs.PickedJobs.{jobs-taken, tags-taken}
use Rattle.nvme_front.proofs.ReadyPlaces.{pick-ready}

-- what a pick may be made of
pub may_pick : (s : FrontState) (k : IsRunning s) (pick : Pick) → next_lawful (view_of s) ≡ Some pick → pending (past_of s) ≡ None → HasPlaces (rules_of s) (past_of s) pick
    → MayPick (rules_of s) k.notes pick
may_pick s k pick next none places = record {
  next = next_is s k pick next;
  places = subst (λ (p : Past). outstanding (rules_of s) p + places_for p pick ≤ max_outstanding) (sym k.past_is) places;
  none_pending = ap (λ (p : Past). pending p) k.past_is ∙ none;
}

-- a pick of a queue on a region was made by an engine, its commands were taken and their jobs added, and it was logged. All else is as it was
pub record PickedIo (s b : FrontState) (pick : Pick) (seen : List Seen) (r : ℕ) : Type 0 where
  pub middle : Engine
  pub picked : (rules : FrontRules) (late : Bool) (notes : Notes) → StandsAt rules late notes s.engine → MayPick rules notes pick → pick.qid ≢ 0 → HasPicked rules late notes pick middle
  pub dispatched : (rules : FrontRules) (late : Bool) (notes : Notes) (indexes : List ℕ) → StandsBut rules late notes (map (place_at r) indexes) middle → length indexes ≡ pick.n
      → HasDispatched rules late notes r indexes s.jobs b.jobs b.engine
  pub on : IsOpenOn (past_of s) pick.qid r
  pub seen_is : seen ≡ observation_of (past_of s)
  pub log : b.log.items ≡ s.log.items ++ event.Pick seen pick ∷ []
  pub within : length s.log.items + 1 ≤ s.config.max_events
  pub sqs : b.sqs.items ≡ s.sqs.items
  pub cqs : b.cqs.items ≡ s.cqs.items
  pub late : b.late ≡ s.late
  pub config : b.config ≡ s.config
  pub alloc : b.alloc ≡ s.alloc

-- the engine stands, with the commands of the pick to be taken
module _ (s : FrontState) (k : IsRunning s) (pick : Pick) (next : next_lawful (view_of s) ≡ Some pick) (none : pending (past_of s) ≡ None) (io : pick.qid ≢ 0)
    (places : HasPlaces (rules_of s) (past_of s) pick) (r : ℕ) (on : IsOpenOn (past_of s) pick.qid r) (middle : Engine)
    (picked : (rules : FrontRules) (late : Bool) (notes : Notes) → StandsAt rules late notes s.engine → MayPick rules notes pick → pick.qid ≢ 0 → HasPicked rules late notes pick middle) where
  -- the places that it takes
  abbrev indexes : List ℕ
  indexes = take pick.n (waiting (past_of s) r)

  pub enough : length indexes ≡ pick.n
  enough =
      let is = due s k pick next in
      let same : is.queue.region ≡ r = ap (λ (q : Queue). q.region) (same_Some is.queue on.queue (sym is.is_open ∙ on.is_open)) ∙ on.on in
      length-take pick.n (waiting (past_of s) r)
      ∙ min-eq_left {n = pick.n} {m = length (waiting (past_of s) r)} (omega (arith, is.enough, ap (λ (x : ℕ). length (waiting (past_of s) x)) same))

  pub to_take : StandsBut (rules_of s) s.late (seen_notes k.notes pick) (map (place_at r) indexes) middle
  to_take =
      let did = picked (rules_of s) s.late k.notes k.stands (may_pick s k pick next none places) io in
      let at : open_sq (past_of s) pick.qid ≡ Some did.queue = ap (λ (p : Past). open_sq p pick.qid) (sym k.past_is) ∙ did.is_open in
      let same : did.queue.region ≡ r = ap (λ (q : Queue). q.region) (same_Some did.queue on.queue (sym at ∙ on.is_open)) ∙ on.on in
      let taken : dispatched_by (logged k.notes) pick (Some did.queue) ≡ map (place_at r) indexes =
      ap (λ (b : Bool). if b then [] else map (place_at did.queue.region) (take pick.n (waiting (logged k.notes) did.queue.region))) (ne_eqb pick.qid 0 io)
      ∙ ap (λ (p : Past). map (place_at did.queue.region) (take pick.n (waiting p did.queue.region))) k.past_is
      ∙ ap (λ (x : ℕ). map (place_at x) (take pick.n (waiting (past_of s) x))) same in
      subst (λ (ps : List Place). StandsBut (rules_of s) s.late (seen_notes k.notes pick) ps middle) taken did.stands

  pub middle_engine : IsEngine middle
  middle_engine = record { rules = rules_of s; late = s.late; notes = seen_notes k.notes pick; rest = map (place_at r) indexes; stands = to_take }

module _ (s b : FrontState) (pick : Pick) (seen : List Seen) (r : ℕ) (p : PickedIo s b pick seen r) (kept : IsConsistent s) (admin : HasAdmin s)
    (next : next_lawful (view_of s) ≡ Some pick) (none : pending (past_of s) ≡ None) (io : pick.qid ≢ 0) (places : HasPlaces (rules_of s) (past_of s) pick) where
  k : IsRunning s
  k = kept.running admin

  did : HasDispatched (rules_of s) s.late (seen_notes k.notes pick) r (take pick.n (waiting (past_of s) r)) s.jobs b.jobs b.engine
  did =
      p.dispatched (rules_of s) s.late (seen_notes k.notes pick) (take pick.n (waiting (past_of s) r))
      (to_take s k pick next none io places r p.on p.middle p.picked) (enough s k pick next none io places r p.on p.middle p.picked)

  -- the log with it
  pub io-past : past_of b ≡ event.Pick seen pick ∷ past_of s
  io-past = ap (λ (xs : List Event). reverse xs) p.log ∙ past-push s.log.items (event.Pick seen pick)

  -- the seat, and what runs, are as they were
  pub io-seat : b.jobs.hands.seat ≡ s.jobs.hands.seat
  io-seat = ap (λ (j : JobsView). j.hands.seat) did.jobs

  pub io-running : b.jobs.hands.running ≡ s.jobs.hands.running
  io-running = ap (λ (j : JobsView). j.hands.running) did.jobs

  -- the same front later on
  pub io-goes : Goes s b
  io-goes = record {
    grew = (event.Pick seen pick ∷ [], sym p.log);
    config = p.config;
    alloc = p.alloc;
    late = p.late;
    gets = ap (λ (x : List SqRegion). map get_place (gets_of x)) p.sqs;
    puts = ap (map put_place) p.cqs;
    comes = comes-same s.sqs.items b.sqs.items (ap (map coming_at) p.sqs);
    came = ap (λ (j : JobsView). j.hands.came) did.jobs;
    seat = subst (λ (x : SeatView). SameSeat s.jobs.hands.seat x) (sym io-seat) (SameSeat-refl s.jobs.hands.seat);
    handed = omega (arith, ap (λ (x : SeatView). length x.handed) io-seat);
    gained = omega (arith, ap (λ (j : JobsView). gained_count j.hands) did.jobs);
    room = ap (λ (j : JobsView). j.room) did.jobs;
  }

  few : pick.n ≤ max_outstanding
  few = let all = few_picks s k pick io places in omega (arith, all)

  -- the jobs of its commands are added
  jobs : HoldsJobs s.config.spaces (event.Pick seen pick ∷ past_of s) b.jobs
  jobs =
      let but : HoldsJobsBut s.config.spaces (event.Pick seen pick ∷ past_of s) s.jobs (map (place_at p.on.queue.region) (take pick.n (waiting (past_of s) p.on.queue.region))) =
      jobs-picked s.config.spaces (past_of s) seen pick p.on.queue s.jobs p.on.is_open (ne_eqb pick.qid 0 io) few k.jobs in
      let here : HoldsJobsBut s.config.spaces (event.Pick seen pick ∷ past_of s) s.jobs (map (place_at r) (take pick.n (waiting (past_of s) r))) =
      subst (λ (x : ℕ). HoldsJobsBut s.config.spaces (event.Pick seen pick ∷ past_of s) s.jobs (map (place_at x) (take pick.n (waiting (past_of s) x)))) p.on.on but in
      let at : logged (seen_notes k.notes pick) ≡ event.Pick seen pick ∷ past_of s =
      ap (λ (x : Past). event.Pick (observation_of x) pick ∷ x) k.past_is ∙ ap (λ (xs : List Seen). event.Pick xs pick ∷ past_of s) (sym p.seen_is) in
      subst (λ (j : JobsView). HoldsJobs s.config.spaces (event.Pick seen pick ∷ past_of s) j) (sym did.jobs)
      (jobs-taken s.config.spaces (event.Pick seen pick ∷ past_of s) (seen_notes k.notes pick) r (take pick.n (waiting (past_of s) r)) did.ds s.jobs at did.are here)

  -- the front runs at its log
  running : IsRunning b
  running = record {
    notes = taken_notes did.ds (seen_notes k.notes pick);
    stands = subst (λ (x : Bool). StandsAt (rules_of b) x (taken_notes did.ds (seen_notes k.notes pick)) b.engine) (sym p.late)
        (subst (λ (x : FrontRules). StandsAt x s.late (taken_notes did.ds (seen_notes k.notes pick)) b.engine) (sym (rules-goes s b io-goes)) did.stands);
    past_is = logged-taken did.ds (seen_notes k.notes pick)
        ∙ ap (λ (x : Past). event.Pick (observation_of x) pick ∷ x) k.past_is ∙ ap (λ (xs : List Seen). event.Pick xs pick ∷ past_of s) (sym p.seen_is) ∙ sym io-past;
    got = λ x. ap (λ (z : Past). fetched z x) io-past ∙ k.got x ∙ ap (λ (sqs : List SqRegion). got_in (record (view_of s) { gets = gets_of sqs }) x) (sym p.sqs);
    sent = λ c. ap (λ (z : Past). posted_to z c) io-past ∙ k.sent c
        ∙ ap (λ (ps : List (PutView Cqe)). get_or (map (λ (y : PutView Cqe). y.sent) ps) c []) (sym p.cqs);
    counted = subst (λ (sqs : List SqRegion). (i : ℕ) (x : SqRegion) → i < length sqs → IsCounted (get_or sqs i x)) (sym p.sqs) k.counted;
    jobs = subst (λ (z : Past). HoldsJobs b.config.spaces z b.jobs) (sym io-past)
        (subst (λ (sizes : List ℕ). HoldsJobs sizes (event.Pick seen pick ∷ past_of s) b.jobs) (ap (λ z. z.spaces) (sym p.config)) jobs);
    tags = subst (λ (j : JobsView). HoldsTags (taken_notes did.ds (seen_notes k.notes pick)) j) (sym did.jobs)
        (tags-taken (seen_notes k.notes pick) r s.jobs.tickets (take pick.n (waiting (past_of s) r)) did.ds s.jobs did.are
        (tags_stay k.notes (seen_notes k.notes pick) s.jobs (record { holders = λ t. refl; answers = λ x i. refl }) k.tags));
  }

  -- so it is kept
  pub io-kept : IsConsistent b
  io-kept =
      let short : length b.log.items ≤ b.config.max_events =
      omega (arith, ap (λ (xs : List Event). length xs) p.log, length_push s.log.items (event.Pick seen pick), ap (λ z. z.max_events) p.config, p.within) in
      kept_after s b admin kept.roomy io-goes short running

  pub io-posted : NoneCanBePosted (view_of s) → NoneCanBePosted (view_of b)
  io-posted =
      pick-ready s b seen pick p.on.queue (seen_notes k.notes pick) s.jobs.tickets did.ds p.on.is_open
      (subst (λ (x : ℕ). AreDispatched (seen_notes k.notes pick) x s.jobs.tickets (take pick.n (waiting (past_of s) x)) did.ds) (sym p.on.on) did.are)
      io-past did.jobs p.cqs

  pub io-picks_of : IsPickOf s b
  io-picks_of = record {
    seen = seen;
    pick = pick;
    after = [];
    log_is = p.log;
    room = λ of_admin. absurd (io of_admin);
    places = places;
    cqs = p.cqs;
    posted = λ _. io-posted;
  }
