-- What ties the lane, the seat and the workers of one pool (profile).
use Rattle.std.specs.Prelude.{◌≡◌, ◌+◌, ◌≤◌, List, [], map, length, sum_by}
use Rattle.std.specs.List.{All, range_with_len}
use Rattle.nvme_lane.specs.View.{GetView}
use Rattle.nvme_lane.specs.Passes.{LaneView, whole}
use Rattle.nvme_pool.specs.declared.jobs.Finished.{Finished}
use Rattle.nvme_pool.specs.Limits.{max_workers, result_slots}
use Rattle.nvme_pool.specs.Worker.{WorkerView, IsFresh}
use Rattle.nvme_pool.specs.Place.{Place}
use Rattle.nvme_pool.specs.Seat.{SeatView, Ends, rings_at}

-- the rings of the workers, in order
abbrev pub rings_of : List WorkerView → List Place
rings_of workers = map (λ (w : WorkerView). w.ring) workers

-- they are the lane, the seat and all workers of one pool, in the order in which it gave them: the parts of the lane are all there, and each worker gives to the ring of the end at its place
pub record IsPool (lane : LaneView) (seat : SeatView) (workers : List WorkerView) : Type 0 where
  pub seat_of : seat.lane ≡ lane
  pub workers_of : All (λ (w : WorkerView). w.lane ≡ lane) workers
  pub complete : seat.parts + sum_by (λ (w : WorkerView). w.parts) workers ≡ whole
  pub rings : rings_of workers ≡ rings_at seat.ends
  pub few : length workers ≤ max_workers

-- nothing was got or is known, and the ring has the slots of a result ring
pub record IsFreshEnd (g : GetView Finished) : Type 0 where
  pub got : g.got ≡ []
  pub known : g.known ≡ []
  pub slots : g.slots ≡ result_slots

-- the address of each ring is the worker's place in the list
abbrev pub HavePlaces : Ends → Type 0
HavePlaces ends = map (λ (g : GetView Finished). g.address) ends ≡ range_with_len 0 (length ends)

-- nothing was handed, taken, executed, given or gained
pub record IsBlank (seat : SeatView) (workers : List WorkerView) : Type 0 where
  pub handed : seat.handed ≡ []
  pub ends : All IsFreshEnd seat.ends
  pub addresses : HavePlaces seat.ends
  pub worked : All IsFresh workers
