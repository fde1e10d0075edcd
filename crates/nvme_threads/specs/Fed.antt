-- What a failed drive answers, of a front with the feeders of its rings (profile).
use Rattle.std.specs.Prelude.{ℕ, List, [], map, slice_index_or}
use mathlib.Core.List.{IsPrefix}
use Rattle.nvme_entry.specs.declared.submission.Sqe.{Sqe}
use Rattle.nvme_lane.specs.Feeder.{script_of}
use Rattle.nvme_lane.specs.declared.feeder.Feeder.{Feeder}
use Rattle.nvme_front.specs.View.{FrontView, got_in}
use Rattle.nvme_front.specs.declared.front.FrontError.{FrontError}
use Rattle.nvme_front.specs.declared.front.FrontError.TheVariants as front
use Rattle.nvme_threads.specs.Faults.{TurnFails}
use Rattle.nvme_threads.specs.declared.drives.DriveError.{DriveError}
use Rattle.nvme_threads.specs.declared.drives.DriveError.TheVariants as drive

-- the script of the feeder of a submission region
abbrev pub script_at : List (Feeder Sqe) → ℕ → List Sqe
script_at feeders r = slice_index_or (map (λ (f : Feeder Sqe). script_of f) feeders) r []

-- a turn failed so, and what the front had got then from each region is the first of its feeder's script
pub record FedTurnFails (given : FrontView) (feeders : List (Feeder Sqe)) (e : FrontError) : Type 0 where
  pub fails : TurnFails given e
  pub scripts : (r : ℕ) → IsPrefix (got_in fails.after r) (script_at feeders r)

-- a fault of the front is that of a turn. Out of memory is told as such, and never as a fault of the front
abbrev pub IsFedFault : FrontView → List (Feeder Sqe) → DriveError → Type 0
IsFedFault given feeders drive.NoMemory = Unit {0}
IsFedFault given feeders (drive.Front front.NoMemory) = ⊥
IsFedFault given feeders (drive.Front e) = FedTurnFails given feeders e
