-- What a file of either form stands for. (profile)
use Rattle.std.specs.Prelude.{◌≡◌, ℕ, if◌then◌else◌, List, [], ◌∷◌, Option, Some, None, Result, Ok, Err}
use Rattle.std.specs.Result.{result_err}
use Rattle.std.specs.Str.{is_utf8}
use Rattle.toml.specs.Data.{Members}
use Rattle.toml.specs.Parse.{parse_document}
use Rattle.nvme_workload.specs.declared.error.WorkloadError.{WorkloadError}
use Rattle.nvme_workload.specs.Plan.{Plan, plan_in, workload_of}
use Rattle.nvme_short_form.specs.declared.place.Place.TheVariants.{Top}
use Rattle.nvme_short_form.specs.declared.error.Fault.TheVariants.{Written}
use Rattle.nvme_short_form.specs.declared.error.ShortError.{ShortError}
use Rattle.nvme_short_form.specs.declared.error.ShortError.TheVariants.{At}
use Rattle.nvme_short.specs.declared.expansion.ExpandError.{ExpandError}
use Rattle.nvme_short.specs.declared.expansion.ExpandError.TheVariants as told_error
use Rattle.nvme_short_form.specs.Readings.{◌>>=◌}
use Rattle.nvme_short_form.specs.Form.{is_short, form_of}
use Rattle.nvme_short_form.specs.Flaws.{led_by, table_flaws}
use Rattle.nvme_short.specs.Documents.{document_of}
use Rattle.nvme_short.specs.declared.faults.ShortFaults.{ShortFaults}
use Rattle.nvme_short.specs.declared.short_fault.ShortFault.{ShortFault}
use Rattle.nvme_short.specs.Faults.{AreTold, shown}

-- ---- the workload of a short table

-- the table of today's form that it is written out to
unfoldable pub expansion_of : Members → Result Members ShortError
expansion_of table = form_of table >>= (λ form. Ok (document_of form))

-- a fault of that table is told as such
abbrev pub told : Result Plan WorkloadError → Result Plan ShortError
told (Ok plan) = Ok plan
told (Err e) = Err (At Top (Written e))

-- the workload: that of the table that it is written out to
unfoldable pub plan_of_short : Members → Result Plan ShortError
plan_of_short table = expansion_of table >>= (λ written. told (plan_in written))

-- ---- files

abbrev pub short_of : Option Members → Option Members
short_of None = None
short_of (Some table) = if is_short table then Some table else None

-- the document of the bytes of a file
abbrev pub document_in : List ℕ → Option Members
document_in bytes = if is_utf8 bytes then parse_document bytes else None

-- the table of a short file, and none of any other bytes
abbrev pub short_in : List ℕ → Option Members
short_in bytes = short_of (document_in bytes)

-- the text is one of today's form that reads as the workload of a short table
abbrev pub Reads : Members → List ℕ → Type 0
Reads table text = (plan : Plan) × (plan_of_short table ≡ Ok plan) × (workload_of text ≡ Ok plan)

-- what is written of a short table. Any other file stands for itself
abbrev pub StandsBy : Option Members → List ℕ → List ℕ → Type 0
StandsBy None bytes text = text ≡ bytes
StandsBy (Some table) bytes text = Reads table text

-- the text of today's form for which the bytes of a file stand
abbrev pub StandsFor : List ℕ → List ℕ → Type 0
StandsFor bytes text = StandsBy (short_in bytes) bytes text

-- ---- faults. Out of memory is told as such

-- the table has faults, and these are told: all, or so many that the others are counted
pub record AreFaultsIn (table : Members) (faults : ShortFaults) : Type 0 where
  pub first : ShortError
  pub is_first : plan_of_short table ≡ Err first
  pub told : AreTold (led_by first (table_flaws table)) faults

-- what is told is the faults of a short table
abbrev pub TellsFaultsOf : Members → ExpandError → Type 0
TellsFaultsOf table (told_error.Faults faults) = AreFaultsIn table faults
TellsFaultsOf table told_error.NoMemory = Unit {0}

-- the bytes are a short file, and what is told is its faults
abbrev pub TellsShortFaults : List ℕ → ExpandError → Type 0
TellsShortFaults bytes (told_error.Faults faults) = (table : Members) × (short_in bytes ≡ Some table) × AreFaultsIn table faults
TellsShortFaults bytes told_error.NoMemory = Unit {0}

-- ---- the law

abbrev pub first_told : List ShortFault → Option ShortError
first_told [] = None
first_told (fault ∷ faults) = Some (shown fault)

-- what is told of a short table begins with its first fault
abbrev pub FirstFaultIsToldFirst : Type 0
FirstFaultIsToldFirst = (table : Members) (faults : ShortFaults) → AreFaultsIn table faults → first_told faults.told.items ≡ result_err (plan_of_short table)
