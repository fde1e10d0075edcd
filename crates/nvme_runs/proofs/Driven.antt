-- The parts of a run after they were driven.
use Rattle.std.proofs.Common.{◌≡◌, ℕ, ◌≤◌, ◌<◌, List, [], ◌∷◌, length, map, refl, sym, ap, ◌∙◌, subst}
use Rattle.std.proofs.lemmas.List.{length-map}
use Rattle.std.proofs.lemmas.Simd.{map-map}
use Rattle.nvme_entry.specs.declared.submission.Sqe.{Sqe}
use Rattle.nvme_entry.specs.declared.completion.Cqe.{Cqe}
use Rattle.nvme_lane.specs.Feeder.{script_of}
use Rattle.nvme_lane.specs.declared.feeder.Feeder.{Feeder}
use Rattle.nvme_lane.specs.declared.drainer.Drainer.{Drainer}
use Rattle.nvme_pool.specs.Pool.{IsPool}
use Rattle.nvme_pool.specs.Seat.{SeatView}
use Rattle.nvme_pool.specs.Worker.{WorkerView, SameWorkers, identity_of}
use Rattle.nvme_pool.proofs.Standing.{pool_stays, same_identity}
use Rattle.nvme_admin.specs.declared.bounds.TheConstants.{MAX_REGIONS}
use Rattle.nvme_workload.specs.declared.plan.SqPlan.{SqPlan}
use Rattle.nvme_front.specs.declared.settlement.Parts.{Parts}
use Rattle.nvme_front.specs.Ends.{get_place, put_place}
use Rattle.nvme_front.specs.Hosts.{IsFedBy, IsDrainedBy, feeder_place}
use Rattle.nvme_front.specs.Settles.{HasItsPool}
use Rattle.nvme_front.specs.View.{FrontView, GoesOn}
use Rattle.nvme_threads.specs.Hosts.{feeder_seen, drainer_seen}
use Rattle.nvme_threads.specs.Runs.{AllRan}

-- where the same is seen of two lists, the same is seen of what is seen
seen_of : {X Y Z : Type 0} (f : X → Y) (h : Y → Z) (xs ys : List X) → map f xs ≡ map f ys → map (λ x. h (f x)) xs ≡ map (λ x. h (f x)) ys
seen_of f h xs ys e = sym (map-map h f xs) ∙ ap (map h) e ∙ map-map h f ys

-- feeders that went on have the same ends
places_seen : (fs fs' : List (Feeder Sqe)) → map feeder_seen fs' ≡ map feeder_seen fs → map feeder_place fs' ≡ map feeder_place fs
places_seen fs fs' e = seen_of feeder_seen (λ p. p.1) fs' fs e

-- feeders that went on have the same scripts
pub scripts_seen : (fs fs' : List (Feeder Sqe)) → map feeder_seen fs' ≡ map feeder_seen fs
    → map (λ (f : Feeder Sqe). script_of f) fs' ≡ map (λ (f : Feeder Sqe). script_of f) fs
scripts_seen fs fs' e = seen_of feeder_seen (λ p. p.0) fs' fs e

-- the feeders of a front that went on feed it still
pub still_fed : (v w : FrontView) (fs fs' : List (Feeder Sqe)) → IsFedBy v fs → map feeder_seen fs' ≡ map feeder_seen fs → GoesOn v w → IsFedBy w fs'
still_fed v w fs fs' fed seen goes = places_seen fs fs' seen ∙ fed ∙ sym goes.gets

-- its drainers drain it still
pub still_drained : (v w : FrontView) (ds ds' : List (Drainer Cqe)) → IsDrainedBy v ds → map drainer_seen ds' ≡ map drainer_seen ds → GoesOn v w → IsDrainedBy w ds'
still_drained v w ds ds' drained seen goes = seen ∙ drained ∙ sym goes.puts

-- there are as many feeders as regions of the workload
pub few_feeders : (fs fs' : List (Feeder Sqe)) (plans : List SqPlan) → map (λ (f : Feeder Sqe). script_of f) fs ≡ map (λ (p : SqPlan). p.script) plans
    → map feeder_seen fs' ≡ map feeder_seen fs → length plans ≤ MAX_REGIONS → length fs' ≤ MAX_REGIONS
few_feeders fs fs' plans scripts seen few =
    let as_many : length fs' ≡ length fs = sym (length-map fs' feeder_seen) ∙ ap length seen ∙ length-map fs feeder_seen in
    let of_plans : length fs ≡ length plans = sym (length-map fs (λ (f : Feeder Sqe). script_of f)) ∙ ap length scripts ∙ length-map plans (λ (p : SqPlan). p.script) in
    subst (λ n. n ≤ MAX_REGIONS) (sym (as_many ∙ of_plans)) few

-- there are ends of submission rings as before
pub gets_still : (v w : FrontView) → GoesOn v w → 0 < length v.gets → 0 < length w.gets
gets_still v w goes some = subst (λ k. 0 < k) (sym (length-map v.gets get_place) ∙ ap length (sym goes.gets) ∙ length-map w.gets get_place) some

-- there are ends of completion rings as before
pub puts_still : (v w : FrontView) → GoesOn v w → 0 < length v.puts → 0 < length w.puts
puts_still v w goes some = subst (λ k. 0 < k) (sym (length-map v.puts put_place) ∙ ap length (sym goes.puts) ∙ length-map w.puts put_place) some

module _ {G : Type 0} (runs : G → ℕ → G) where
  -- workers that ran are the same workers
  same_workers : (ws : List WorkerView) (vs : List G) (ws' : List WorkerView) (vs' : List G) → AllRan runs ws vs ws' vs' → SameWorkers ws ws'
  same_workers [] [] [] [] h = refl
  same_workers (w ∷ ws) (v ∷ vs) (w' ∷ ws') (v' ∷ vs') h =
      ap (λ z. z ∷ map identity_of ws') (same_identity w w' h.0.same) ∙ ap (λ z. identity_of w ∷ z) (same_workers ws vs ws' vs' h.1)
  same_workers ws vs ws' vs' h = absurd h

  -- the parts that came back have their pool still
  pub pool_kept : (p q : Parts) (vs vs' : List G) → HasItsPool p → q.lanes ≡ p.lanes → GoesOn p.front q.front → AllRan runs p.workers.items vs q.workers.items vs' → HasItsPool q
  pool_kept p q vs vs' has lanes goes ran =
      record {
        pool =
            subst (λ lane. IsPool lane q.front.hands.seat q.workers.items) (sym lanes)
            (pool_stays p.lanes p.front.hands.seat q.front.hands.seat p.workers.items q.workers.items has.pool goes.seat (same_workers p.workers.items vs q.workers.items vs' ran));
        none_before = ap (λ (s : SeatView). s.handed) goes.came ∙ has.none_before;
      }
