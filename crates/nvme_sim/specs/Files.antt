-- Files of either form, by the texts for which they stand. (profile)
use Rattle.std.specs.Prelude.{◌⊎◌, ℕ, List}
use Rattle.nvme_short.specs.declared.faults.ShortFaults.{ShortFaults}
use Rattle.nvme_short.specs.declared.expansion.ExpandError.TheVariants as told
use Rattle.nvme_short.specs.Expansion.{StandsFor, TellsShortFaults}
use Rattle.nvme_sim.specs.Statuses.{IsBadWorkload, IsTooLong}

-- P holds of a text for which the bytes of a file stand
abbrev pub OfFile : (List ℕ → Type 0) → List ℕ → Type 0
OfFile P bytes = (text : List ℕ) × StandsFor bytes text × P text

-- the bytes are a short file with faults
abbrev pub IsBadShort : List ℕ → Type 0
IsBadShort bytes = (faults : ShortFaults) × TellsShortFaults bytes (told.Faults faults)

-- a file at fault: it is too long, or a short one with a fault, or stands for a text that is no workload
abbrev pub IsBadFile : List ℕ → Type 0
IsBadFile bytes = IsTooLong bytes ⊎ IsBadShort bytes ⊎ OfFile IsBadWorkload bytes
