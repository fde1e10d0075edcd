-- What an occupancy becomes where one comes or leaves. (profile)
use Rattle.std.specs.Prelude.{◌≡◌, ◌<◌, ℕ, ◌+◌, ◌-◌, ◌*◌}
use Rattle.nvme_occupancy.specs.declared.occupancy.Occupancy.{Occupancy}
use Rattle.nvme_occupancy.specs.declared.occupancy.OccupancyFault.{OccupancyFault}
use Rattle.nvme_occupancy.specs.declared.occupancy.OccupancyFault.TheVariants.{Early, Empty, Full}

-- the area until a time, where none came or left since
abbrev pub area_at : Occupancy → ℕ → ℕ
area_at o at = o.area + (o.came - o.left) * (at - o.until)

pub record IsEmpty (o : Occupancy) : Type 0 where
  pub came : o.came ≡ 0
  pub left : o.left ≡ 0
  pub until : o.until ≡ 0
  pub area : o.area ≡ 0
  pub came_times : o.came_times ≡ 0
  pub left_times : o.left_times ≡ 0

pub record Comes (at : ℕ) (old new : Occupancy) : Type 0 where
  pub came : new.came ≡ old.came + 1
  pub left : new.left ≡ old.left
  pub until : new.until ≡ at
  pub area : new.area ≡ area_at old at
  pub came_times : new.came_times ≡ old.came_times + at
  pub left_times : new.left_times ≡ old.left_times

pub record Leaves (at : ℕ) (old new : Occupancy) : Type 0 where
  pub came : new.came ≡ old.came
  pub left : new.left ≡ old.left + 1
  pub until : new.until ≡ at
  pub area : new.area ≡ area_at old at
  pub came_times : new.came_times ≡ old.came_times
  pub left_times : new.left_times ≡ old.left_times + at

abbrev pub TellsFault : ℕ → Occupancy → OccupancyFault → Type 0
TellsFault at o Early = at < o.until
TellsFault at o Empty = o.came ≡ o.left
TellsFault at o Full = o.came ≡ 0xffff_ffff_ffff_ffff
