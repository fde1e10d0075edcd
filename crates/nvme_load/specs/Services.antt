-- How long a device takes for a command. (profile)
use Rattle.std.specs.Prelude.{ℕ, ◌+◌, ◌*◌, Option, Some}
use Rattle.rand_core.specs.Stream.{Stream}
use Rattle.nvme_clock.specs.Draws.{drawn_from, exponential, one_of_two}
use Rattle.nvme_clock.specs.Quantiles.{values_of}
use Rattle.nvme_load.specs.declared.mix.Operation.{Operation}
use Rattle.nvme_load.specs.declared.mix.Operation.TheVariants.{Read, Write, Flush}
use Rattle.nvme_load.specs.declared.services.Distribution.{Distribution}
use Rattle.nvme_load.specs.declared.services.Distribution.TheVariants.{Fixed, Exponential, TwoPoints, Quantiles}
use Rattle.nvme_load.specs.declared.services.Service.{Service}
use Rattle.nvme_load.specs.declared.services.Services.{Services}
use Rattle.nvme_load.specs.Times.{fitting}

abbrev pub time_of : Distribution → Stream → ℕ × Stream
time_of (Fixed time) s = (time, s)
time_of (Exponential mean) s = exponential mean.picoseconds s
time_of (TwoPoints points) s = one_of_two points.usual points.rare points.times points.out_of s
time_of (Quantiles table) s = drawn_from (values_of table) s

-- a time for the command, and one for each of its blocks
abbrev pub service_of : Service → ℕ → Stream → Option ℕ × Stream
service_of service blocks s = let drawn = time_of service.time s in (fitting (drawn.0 + service.per_block * blocks), drawn.1)

-- a flush has no blocks
abbrev pub service_by : Services → Operation → ℕ → Stream → Option ℕ × Stream
service_by services Read blocks s = service_of services.read blocks s
service_by services Write blocks s = service_of services.write blocks s
service_by services Flush blocks s = let drawn = time_of services.flush s in (Some drawn.0, drawn.1)
