-- The means of exponential times: above 0, and so small that 64 of them are a time. (profile)
use Rattle.std.specs.Prelude.{◌≡◌, ◌<◌, ℕ}
use Rattle.nvme_clock.specs.declared.draws.TheConstants.{MAX_MEAN}
use Rattle.nvme_load.specs.declared.mean.MeanFault.{MeanFault}
use Rattle.nvme_load.specs.declared.mean.MeanFault.TheVariants.{Zero, TooLong}

abbrev pub TellsMeanFault : ℕ → MeanFault → Type 0
TellsMeanFault picoseconds Zero = picoseconds ≡ 0
TellsMeanFault picoseconds TooLong = MAX_MEAN < picoseconds
