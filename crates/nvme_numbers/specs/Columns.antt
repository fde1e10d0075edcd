-- The columns of a row: the name of each, and what it says. (profile)
use Rattle.std.specs.Prelude.{ℕ, List, [], ◌∷◌, Option, Some, None, codes}
use Rattle.nvme_cells.specs.Rows.{Named}
use Rattle.nvme_cells.specs.Values.{Nothing, Value, Whole, fraction_of, whole_of}
use Rattle.nvme_cells.specs.declared.cell.Places.TheVariants.{Six}
use Rattle.nvme_numbers.specs.declared.columns.Measure.{Measure}
use Rattle.nvme_numbers.specs.declared.columns.Measure.TheVariants.{Mean, P50, P95, P99, P999, Longest, Host, Arbitration, Device, Service, AboveP50, AboveP95, AboveP99, AboveP999}
use Rattle.nvme_numbers.specs.declared.row.Fed.{Fed}
use Rattle.nvme_numbers.specs.declared.row.Row.{Row}
use Rattle.nvme_numbers.specs.declared.row.Spread.{Spread}

abbrev pub column : (name : List ℕ) → Value → Named
column name value = record { name = name; value = value }

-- what a measure is
abbrev pub measured : Measure → Spread → ℕ
measured Mean s = s.mean
measured P50 s = s.p50
measured P95 s = s.p95
measured P99 s = s.p99
measured P999 s = s.p999
measured Longest s = s.longest
measured Host s = s.host
measured Arbitration s = s.arbitration
measured Device s = s.device
measured Service s = s.service
measured AboveP50 s = s.above_p50
measured AboveP95 s = s.above_p95
measured AboveP99 s = s.above_p99
measured AboveP999 s = s.above_p999

-- nothing of no command
abbrev pub measure_of : Measure → Option Spread → Value
measure_of measure (Some s) = Whole (measured measure s)
measure_of measure None = Nothing

-- how many commands
abbrev pub commands : Row → Named
commands row = column (codes "commands") (Whole row.commands)

-- their share of all in millionths, and how many and how many bytes a second
abbrev pub rates : Row → List Named
rates row =
    column (codes "share") (fraction_of Six row.share)
    ∷ column (codes "iops") (whole_of row.iops)
    ∷ column (codes "bytes_per_second") (whole_of row.bytes_per_second)
    ∷ []

-- how long they took, in picoseconds
abbrev pub latencies : Option Spread → List Named
latencies spread =
    column (codes "latency_mean_ps") (measure_of Mean spread)
    ∷ column (codes "latency_p50_ps") (measure_of P50 spread)
    ∷ column (codes "latency_p95_ps") (measure_of P95 spread)
    ∷ column (codes "latency_p99_ps") (measure_of P99 spread)
    ∷ column (codes "latency_p999_ps") (measure_of P999 spread)
    ∷ column (codes "latency_max_ps") (measure_of Longest spread)
    ∷ []

-- the means of the parts of that, in picoseconds
abbrev pub parts : Option Spread → List Named
parts spread =
    column (codes "host_mean_ps") (measure_of Host spread)
    ∷ column (codes "arbitration_mean_ps") (measure_of Arbitration spread)
    ∷ column (codes "device_mean_ps") (measure_of Device spread)
    ∷ column (codes "service_mean_ps") (measure_of Service spread)
    ∷ []

-- what was done a second while commands came, and how long that was in picoseconds
abbrev pub feeds : Fed → List Named
feeds fed =
    column (codes "iops_fed") (whole_of fed.iops)
    ∷ column (codes "bytes_per_second_fed") (whole_of fed.bytes_per_second)
    ∷ column (codes "fed_ps") (Whole fed.time)
    ∷ []

-- how many commands lie above percentiles
abbrev pub aboves : Option Spread → List Named
aboves spread =
    column (codes "above_p50") (measure_of AboveP50 spread)
    ∷ column (codes "above_p95") (measure_of AboveP95 spread)
    ∷ column (codes "above_p99") (measure_of AboveP99 spread)
    ∷ column (codes "above_p999") (measure_of AboveP999 spread)
    ∷ []
