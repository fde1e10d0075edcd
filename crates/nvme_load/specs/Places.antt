-- Where commands lie in a namespace. (profile)
use Rattle.std.specs.Prelude.{◌≡◌, ◌<◌, ℕ, zero, suc, ◌+◌, ◌*◌, ◌/◌, ◌%◌, nat_lt, if◌then◌else◌}
use Rattle.rand_core.specs.Stream.{Stream}
use Rattle.nvme_clock.specs.Draws.{uniform}
use Rattle.nvme_load.specs.declared.places.TheConstants.{MAX_BLOCKS}
use Rattle.nvme_load.specs.declared.places.ExtentFault.{ExtentFault}
use Rattle.nvme_load.specs.declared.places.ExtentFault.TheVariants.{NoBlocks, TooManyBlocks, SmallNamespace}
use Rattle.nvme_load.specs.declared.places.Order.{Order}
use Rattle.nvme_load.specs.declared.places.Order.TheVariants.{Uniform, Sequential}

abbrev pub TellsExtentFault : ℕ → ℕ → ExtentFault → Type 0
TellsExtentFault size blocks NoBlocks = blocks ≡ 0
TellsExtentFault size blocks TooManyBlocks = MAX_BLOCKS < blocks
TellsExtentFault size blocks SmallNamespace = size < blocks

-- right behind the command before, or the first block where that is too near to the end of the namespace
abbrev pub place_behind : ℕ → ℕ → ℕ → ℕ
place_behind size blocks end = if nat_lt size (end + blocks) then 0 else end

-- a whole multiple of the command's blocks
abbrev pub uniform_place : ℕ → ℕ → Stream → ℕ × Stream
uniform_place size blocks s = let drawn = uniform (size / blocks) s in (drawn.0 * blocks, drawn.1)

abbrev pub place : Order → ℕ → ℕ → ℕ → Stream → ℕ × Stream
place Uniform size blocks end s = uniform_place size blocks s
place Sequential size blocks end s = (place_behind size blocks end, s)

-- the place of a command with so many before it, where all are sequential
unfoldable pub sequential_place : ℕ → ℕ → ℕ → ℕ
sequential_place size blocks zero = place_behind size blocks 0
sequential_place size blocks (suc before) = place_behind size blocks (sequential_place size blocks before + blocks)

-- sequential commands lie at all whole multiples of their blocks that fit, one after another, again and again
abbrev pub GoesRound : ℕ → ℕ → Type 0
GoesRound size blocks = (before : ℕ) → sequential_place size blocks before ≡ before % (size / blocks) * blocks
