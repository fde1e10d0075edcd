-- How the faults of a short file are told. (profile)
use Rattle.std.specs.Prelude.{◌≡◌, ◌-◌, List, length, map, take}
use Rattle.nvme_short_form.specs.declared.error.ShortError.{ShortError}
use Rattle.nvme_short_form.specs.declared.error.ShortError.TheVariants.{At}
use Rattle.nvme_short_form.specs.declared.flaw.Flaw.{Flaw}
use Rattle.nvme_short.specs.declared.short_fault.ShortFault.{ShortFault}
use Rattle.nvme_short.specs.declared.faults.ShortFaults.{ShortFaults}
use Rattle.nvme_short.specs.declared.faults.TheConstants.{MOST_TOLD}

-- what is told of a fault is its own place and fault
abbrev pub shown : ShortFault → ShortError
shown f = At f.place f.fault

abbrev pub error_of : Flaw → ShortError
error_of flaw = flaw.error

-- the first of the faults are told, and the others counted
pub record AreTold (flaws : List Flaw) (faults : ShortFaults) : Type 0 where
  pub told : map shown faults.told.items ≡ map error_of (take MOST_TOLD flaws)
  pub more : faults.more ≡ length flaws - MOST_TOLD
