-- A pool stays one, whatever its seat and its workers do.
use Rattle.std.proofs.Common.{◌≡◌, ℕ, List, [], ◌∷◌, length, get_or, set, map, refl, sym, ap, ◌∙◌, subst, arith, sum_by}
use Rattle.std.proofs.Math.Seq.{map-set_same}
use Rattle.std.proofs.lemmas.List.{length-map}
use Rattle.std.proofs.lemmas.List.Elements.{All-map}
use Rattle.std.specs.List.{All}
use Rattle.nvme_lane.specs.Passes.{LaneView}
use Rattle.nvme_pool.specs.Place.{Place}
use Rattle.nvme_pool.specs.Worker.{WorkerView, Identity, identity_of, SameWorker, SameWorkers}
use Rattle.nvme_pool.specs.Seat.{SeatView, SameSeat}
use Rattle.nvme_pool.specs.Pool.{IsPool}
use Rattle.nvme_pool.proofs.Beginnings.{all_before_map}
use Rattle.nvme_pool.proofs.Retiring.{sum_by_map}

pub same_identity : (old new : WorkerView) → SameWorker old new → identity_of new ≡ identity_of old
same_identity old new same =
    let by_lane : LaneView → Identity = λ l. record { lane = l; parts = new.parts; ring = new.ring } in
    let by_parts : ℕ → Identity = λ n. record { lane = old.lane; parts = n; ring = new.ring } in
    let by_ring : Place → Identity = λ r. record { lane = old.lane; parts = old.parts; ring = r } in
    ap by_lane same.lane ∙ ap by_parts same.parts ∙ ap by_ring same.ring

pub worker_stays_on : (a b c : WorkerView) → SameWorker a b → SameWorker b c → SameWorker a c
worker_stays_on a b c x y = record { lane = y.lane ∙ x.lane; parts = y.parts ∙ x.parts; ring = y.ring ∙ x.ring }

-- the worker at a place stepped
pub worker_stays : (workers : List WorkerView) (i : ℕ) (old new : WorkerView) → old ≡ get_or workers i old → SameWorker old new → SameWorkers workers (set workers i new)
worker_stays workers i old new at same = map-set_same identity_of workers i new old (same_identity old new same ∙ ap identity_of at)

pub seat_stays : (seat : SeatView) → SameSeat seat seat
seat_stays seat = record { lane = refl; parts = refl; rings = refl }

pub seat_stays_on : (a b c : SeatView) → SameSeat a b → SameSeat b c → SameSeat a c
seat_stays_on a b c x y = record { lane = y.lane ∙ x.lane; parts = y.parts ∙ x.parts; rings = y.rings ∙ x.rings }

map_map : {X Y Z : Type 0} (f : X → Y) (g : Y → Z) (xs : List X) → map g (map f xs) ≡ map (λ x. g (f x)) xs
map_map f g [] = refl
map_map f g (x ∷ xs) = ap (λ ys. g (f x) ∷ ys) (map_map f g xs)

abbrev lane_of : Identity → LaneView
lane_of i = i.lane

abbrev parts_in : Identity → ℕ
parts_in i = i.parts

abbrev ring_of : Identity → Place
ring_of i = i.ring

pub pool_stays : (lane : LaneView) (seat seat' : SeatView) (workers workers' : List WorkerView) → IsPool lane seat workers → SameSeat seat seat' → SameWorkers workers workers' → IsPool lane seat' workers'
pool_stays lane seat seat' workers workers' pool seats same =
    let OfLane : Identity → Type 0 = λ i. i.lane ≡ lane in
    let of : All OfLane (map identity_of workers) = All-map OfLane identity_of workers pool.workers_of in
    record {
      seat_of = seats.lane ∙ pool.seat_of;
      workers_of = all_before_map OfLane identity_of workers' (subst (All OfLane) (sym same) of);
      complete = omega (
        arith,
        pool.complete,
        seats.parts,
        sum_by_map identity_of parts_in workers,
        sum_by_map identity_of parts_in workers',
        ap (sum_by parts_in) same,
      );
      rings = sym (map_map identity_of ring_of workers') ∙ ap (map ring_of) same ∙ map_map identity_of ring_of workers ∙ pool.rings ∙ sym seats.rings;
      few = omega (arith, pool.few, length-map workers identity_of, length-map workers' identity_of, ap length same);
    }
