-- What the sums of an occupancy tell of the stays that it counted. (profile)
use Rattle.std.specs.Prelude.{◌≡◌, List, All, length}
use Rattle.std.specs.List.{sum_by}
use Rattle.nvme_occupancy.specs.Stays.{IsDoneBy, Stay, area_until}
use Rattle.nvme_occupancy.specs.declared.occupancy.Occupancy.{Occupancy}

-- as many came and left as there are stays, at these times
pub record IsOccupiedBy (stays : List Stay) (o : Occupancy) : Type 0 where
  pub came : o.came ≡ length stays
  pub left : o.left ≡ length stays
  pub came_times : o.came_times ≡ sum_by (λ s. s.came) stays
  pub left_times : o.left_times ≡ sum_by (λ s. s.done) stays

-- the area that was counted is the one under the number of those that are there
abbrev pub TellsArea : List Stay → Occupancy → Type 0
TellsArea stays o = All (IsDoneBy o.until) stays → IsOccupiedBy stays o → o.area ≡ area_until stays o.until
