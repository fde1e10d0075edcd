-- A new front is consistent, and stays so with more room.
use Rattle.std.proofs.Common.{◌≡◌, ◌⊎◌, ℕ, ◌<◌, false, List, [], ◌∷◌, length, refl, sym, ap, ◌∙◌, arith, inl, inr}
use Rattle.std.proofs.lemmas.List.Elements.{All-nil}
use Rattle.nvme_entry.specs.declared.completion.Cqe.{Cqe}
use Rattle.nvme_lane.specs.View.{PutView}
use Rattle.nvme_log.specs.Limits.{max_outstanding}
use Rattle.nvme_pool.specs.Seat.{SeatView}
use Rattle.nvme_engine.specs.Standing.{HasPool}
use Rattle.nvme_jobs.specs.inside.Jobs.{JobsView}
use Rattle.nvme_jobs.specs.inside.Standing.{AreFreshJobs}
use Rattle.nvme_front.specs.declared.state.FrontState.{FrontState}
use Rattle.nvme_front.specs.inside.Goes.{IsSame}
use Rattle.nvme_front.specs.inside.Room.{IsConsistent, IsFreshSq}
use Rattle.nvme_front.proofs.EngineRegions.{has_pool}
use Rattle.nvme_front.proofs.States.{kept_same}

-- jobs that were just made, by a seat, are fresh
pub are_fresh_jobs : (j : JobsView) (seat : SeatView) → j ≡ record { hands = record { came = seat; seat = seat; unhanded = []; running = [] }; tickets = 0; room = 0 } → AreFreshJobs j
are_fresh_jobs j seat is = record {
  tickets = ap (λ (x : JobsView). x.tickets) is;
  none_unhanded = ap (λ (x : JobsView). x.hands.unhanded) is;
  none_running = ap (λ (x : JobsView). x.hands.running) is;
  none_handed = ap (λ (x : JobsView). x.hands.seat.handed) is ∙ sym (ap (λ (x : JobsView). x.hands.came.handed) is);
}

-- no list of regions, where one is to be there
none_there : {X : Type 0} (xs : List X) → xs ≡ [] → 0 < length xs → ⊥
none_there xs none some = let zero_of : length xs ≡ 0 = ap (λ ys. length ys) none in omega (arith, some, zero_of)

-- a front with no region and no event
pub consistent_new : (s : FrontState) → s.sqs.items ≡ [] → s.cqs.items ≡ [] → s.log.items ≡ [] → AreFreshJobs s.jobs → s.late ≡ false → s.engine.slots.items ≡ []
    → IsConsistent s
consistent_new s sqs cqs log jobs early slots = record {
  fresh = λ no_admin. record {
    log = log;
    in_time = early;
    sqs = rw sqs (All-nil IsFreshSq);
    cqs = rw cqs (All-nil (λ (p : PutView Cqe). p.sent ≡ []));
    jobs = jobs;
    pool = λ some. absurd (none_there s.sqs.items sqs some);
    few_slots = rw slots (omega arith);
  };
  running = λ admin. absurd (none_there s.sqs.items sqs admin.0);
  roomy = record {
    jobs = λ some. absurd (none_there s.sqs.items sqs some);
    few_events = rw log (omega arith);
    in_time = λ none. early;
    few_sqs = rw sqs (omega arith);
    few_cqs = rw cqs (omega arith);
    apart = rw (sqs, cqs) tt;
  };
}

-- ---- room
some_or_none : {X : Type 0} (xs : List X) → (xs ≡ []) ⊎ (0 < length xs)
some_or_none [] = inl refl
some_or_none (x ∷ xs) = inr (omega arith)

-- there is room for jobs, or none waits to be handed over
pub room_or_none : (s : FrontState) → IsConsistent s → (s.jobs.room ≡ max_outstanding) ⊎ (s.jobs.hands.unhanded ≡ [])
room_or_none s k = elim (some_or_none s.sqs.items) [
  | inl none ↦ inr (k.fresh (λ admin. none_there s.sqs.items none admin.0)).jobs.none_unhanded
  | inr some ↦ inl (k.roomy.jobs some)
]

-- an engine has its slots once there is a submission region
has_slots : (s : FrontState) → IsConsistent s → 0 < length s.sqs.items → HasPool s.engine
has_slots s k some = elim (some_or_none s.cqs.items) [
  | inl none ↦ (k.fresh (λ admin. none_there s.cqs.items none admin.1)).pool some
  | inr others ↦ let r = k.running (some, others) in has_pool _ s.late r.notes s.engine r.stands
]

-- what was kept with room made for the jobs, for the engine, or neither
module _ (s t : FrontState) (k : IsConsistent s) (config : t.config ≡ s.config) (alloc : t.alloc ≡ s.alloc) (sqs : t.sqs.items ≡ s.sqs.items) (cqs : t.cqs.items ≡ s.cqs.items)
    (late : t.late ≡ s.late) (log : t.log.items ≡ s.log.items) (jobs : t.jobs ≡ record s.jobs { room = t.jobs.room })
    (room : s.jobs.room ≡ max_outstanding → t.jobs.room ≡ max_outstanding) (engine : HasPool s.engine → t.engine ≡ s.engine)
    (few : length s.engine.slots.items < 65536 → length t.engine.slots.items < 65536) where
  room-same : 0 < length s.sqs.items → IsSame s t
  room-same some = record {
    log = log;
    sqs = sqs;
    cqs = cqs;
    engine = engine (has_slots s k some);
    jobs = (let full = k.roomy.jobs some in jobs ∙ ap (λ (n : ℕ). record s.jobs { room = n }) (room full ∙ sym full));
    late = late;
    config = config;
    alloc = alloc;
  }

  -- with no submission region there are only completion regions, with nothing sent
  room-fresh : s.sqs.items ≡ [] → IsConsistent t
  room-fresh none =
      let f = k.fresh (λ admin. none_there s.sqs.items none admin.0) in
      record {
        fresh = λ no_admin. record {
          log = log ∙ f.log;
          in_time = late ∙ f.in_time;
          sqs = rw sqs f.sqs;
          cqs = rw cqs f.cqs;
          jobs = record {
            tickets = ap (λ (j : JobsView). j.tickets) jobs ∙ f.jobs.tickets;
            none_unhanded = ap (λ (j : JobsView). j.hands.unhanded) jobs ∙ f.jobs.none_unhanded;
            none_running = ap (λ (j : JobsView). j.hands.running) jobs ∙ f.jobs.none_running;
            none_handed = ap (λ (j : JobsView). j.hands.seat.handed) jobs ∙ f.jobs.none_handed ∙ sym (ap (λ (j : JobsView). j.hands.came.handed) jobs);
          };
          pool = λ some. absurd (none_there t.sqs.items (sqs ∙ none) some);
          few_slots = few f.few_slots;
        };
        running = λ admin. absurd (none_there t.sqs.items (sqs ∙ none) admin.0);
        roomy = record {
          jobs = λ some. absurd (none_there t.sqs.items (sqs ∙ none) some);
          few_events = rw (log, config) k.roomy.few_events;
          in_time = λ empty. late ∙ k.roomy.in_time (sym log ∙ empty);
          few_sqs = rw sqs k.roomy.few_sqs;
          few_cqs = rw cqs k.roomy.few_cqs;
          apart = rw (sqs, cqs) k.roomy.apart;
        };
      }

  pub consistent_with_room : IsConsistent t
  consistent_with_room = elim (some_or_none s.sqs.items) [
    | inl none ↦ room-fresh none
    | inr some ↦ kept_same s t (room-same some) k
  ]
