-- What is told of what bytes, a text and a document are at fault.
use Rattle.std.specs.Prelude.{◌≡◌, ℕ, List, take, Err}
use Rattle.toml.specs.declared.de.error.Error.{Error}
use Rattle.toml.specs.Data.{Members}
use Rattle.toml.specs.Errors.{span_start}
use Rattle.nvme_workload.specs.declared.error.WorkloadError.{WorkloadError}
use Rattle.nvme_workload.specs.declared.fault.Why.TheVariants as cause
use Rattle.nvme_workload.specs.declared.fault.ReadError.{ReadError}
use Rattle.nvme_workload.specs.declared.fault.ReadError.TheVariants as told
use Rattle.nvme_workload.specs.declared.flaw.Flaw.{Flaw}
use Rattle.nvme_workload.specs.declared.flaw.PlanError.TheVariants.{At}
use Rattle.nvme_workload.specs.declared.place.Place.TheVariants.{Table}
use Rattle.nvme_workload.specs.declared.place.Spot.{Spot}
use Rattle.nvme_workload.specs.Places.{IsToldOf, place_behind}
use Rattle.nvme_workload.specs.Plan.{fault_of, reading_of}

-- this fault is told. Out of memory is told as such
abbrev pub IsToldAs : WorkloadError → ReadError → Type 0
IsToldAs e (told.Fault f) = f.error ≡ e
IsToldAs e told.NoMemory = Unit {0}

-- that bytes aren't UTF-8 is told at the place behind the first of them, which are
abbrev pub IsToldOfBytes : List ℕ → ReadError → Type 0
IsToldOfBytes valid (told.Fault f) = (f.place ≡ place_behind valid) × (f.why ≡ cause.NotUtf8)
IsToldOfBytes valid told.NoMemory = Unit {0}

-- that a text isn't a TOML document is told where this error begins
abbrev pub IsToldOfSyntax : List ℕ → Error → ReadError → Type 0
IsToldOfSyntax text error (told.Fault f) = (f.place ≡ place_behind (take (span_start error) text)) × (f.why ≡ cause.Syntax error)
IsToldOfSyntax text error told.NoMemory = Unit {0}

-- a flaw is told in this table
abbrev pub IsToldIn : Spot → Flaw → ReadError → Type 0
IsToldIn spot flaw (told.Fault f) = (f.error ≡ fault_of flaw) × (f.place ≡ Table spot) × IsToldOf spot flaw f.why
IsToldIn spot flaw told.NoMemory = Unit {0}

-- the first flaw of a document is told in its table
abbrev pub IsToldOfTable : Members → ReadError → Type 0
IsToldOfTable table (told.Fault f) = (spot : Spot) × (flaw : Flaw) × (reading_of table ≡ Err (At spot flaw)) × IsToldIn spot flaw (told.Fault f)
IsToldOfTable table told.NoMemory = Unit {0}
