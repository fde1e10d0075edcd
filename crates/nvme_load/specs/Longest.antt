-- The longest service. (profile)
use Rattle.std.specs.Prelude.{ℕ, ◌+◌, ◌-◌, ◌*◌, max, min, length, slice_index}
use Rattle.nvme_clock.specs.Quantiles.{values_of}
use Rattle.nvme_load.specs.declared.mix.Operation.{Operation}
use Rattle.nvme_load.specs.declared.mix.Operation.TheVariants.{Read, Write, Flush}
use Rattle.nvme_load.specs.declared.services.Distribution.{Distribution}
use Rattle.nvme_load.specs.declared.services.Distribution.TheVariants.{Fixed, Exponential, TwoPoints, Quantiles}
use Rattle.nvme_load.specs.declared.services.Service.{Service}
use Rattle.nvme_load.specs.declared.services.Services.{Services}

-- an exponential time is at most 64 means
abbrev pub longest_time : Distribution → ℕ
longest_time (Fixed time) = time
longest_time (Exponential mean) = 64 * mean.picoseconds
longest_time (TwoPoints points) = max points.usual points.rare
longest_time (Quantiles table) = slice_index (values_of table) (length (values_of table) - 1)

-- of a command of so many blocks: none is drawn that is 2^64 picoseconds or longer
abbrev pub longest_service : Service → ℕ → ℕ
longest_service service blocks = min (longest_time service.time + service.per_block * blocks) 0xffff_ffff_ffff_ffff

-- a flush has no blocks
abbrev pub longest_by : Services → Operation → ℕ → ℕ
longest_by services Read blocks = longest_service services.read blocks
longest_by services Write blocks = longest_service services.write blocks
longest_by services Flush blocks = longest_time services.flush
