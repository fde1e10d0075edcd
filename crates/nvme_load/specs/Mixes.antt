-- Which operation is drawn where each has a share. (profile)
use Rattle.std.specs.Prelude.{◌≡◌, ℕ, ◌+◌, nat_lt, if◌then◌else◌}
use Rattle.rand_core.specs.Stream.{Stream}
use Rattle.nvme_clock.specs.Draws.{uniform}
use Rattle.nvme_load.specs.declared.mix.MixFault.{MixFault}
use Rattle.nvme_load.specs.declared.mix.MixFault.TheVariants.{NoShare}
use Rattle.nvme_load.specs.declared.mix.Operation.{Operation}
use Rattle.nvme_load.specs.declared.mix.Operation.TheVariants.{Read, Write, Flush}

abbrev pub TellsMixFault : ℕ → ℕ → ℕ → MixFault → Type 0
TellsMixFault read write flush NoShare = read + write + flush ≡ 0

-- the numbers below the share of reads are reads, as many as the share of writes behind them are writes, and the others flushes
abbrev pub operation_at : ℕ → ℕ → ℕ → Operation
operation_at read write n = if nat_lt n read then Read else (if nat_lt n (read + write) then Write else Flush)

-- the operation of a uniform number below the sum of the shares
abbrev pub operation : ℕ → ℕ → ℕ → Stream → Operation × Stream
operation read write flush s =
    let drawn = uniform (read + write + flush) s in (operation_at read write drawn.0, drawn.1)
