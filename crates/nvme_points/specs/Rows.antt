-- The rows of a point: of which commands each tells, and its numbers over the runs of the seeds. (profile)
use Rattle.std.specs.Prelude.{◌≡◌, ◌==◌, ℕ, All as Each, Option, Some, None, List, [], ◌∷◌, ◌++◌, length, map, find, filter_map, get_or, option_map}
use Rattle.std.specs.List.{slice_get, enumerate_from}
use Rattle.nvme_arbiter.specs.Settings.{number_of_class}
use Rattle.nvme_arbiter.specs.declared.settings.Class.{Class}
use Rattle.nvme_numbers.specs.declared.answer.Member.{Member}
use Rattle.nvme_numbers.specs.declared.row.Row.{Row}
use Rattle.nvme_numbers.specs.declared.row.Spread.{Spread}
use Rattle.nvme_simulate.specs.declared.runs.Measured.{Measured}
use Rattle.nvme_points.specs.Estimates.{IsEstimate}
use Rattle.nvme_points.specs.declared.estimates.Estimate.{Estimate}
use Rattle.nvme_points.specs.declared.rows.Run.{Run}
use Rattle.nvme_points.specs.declared.rows.Scope.{Scope}
use Rattle.nvme_points.specs.declared.rows.Scope.TheVariants.{Queue, Class as OfClass, All}
use Rattle.nvme_points.specs.declared.rows.SweepRow.{SweepRow}

-- the numbers of a row in the order of their names: commands a second, and of the latencies the mean, four percentiles and
-- the longest
abbrev pub of_spread : (Spread → ℕ) → Row → Option ℕ
of_spread number row = option_map number row.spread

abbrev pub numbers_of : Row → List (Option ℕ)
numbers_of row =
    row.iops ∷ of_spread (λ s. s.mean) row ∷ of_spread (λ s. s.p50) row ∷ of_spread (λ s. s.p95) row ∷ of_spread (λ s. s.p99) row
    ∷ of_spread (λ s. s.p999) row ∷ of_spread (λ s. s.longest) row ∷ []

-- the member of a class
abbrev pub member_in : List Member → Class → Option Member
member_in members class = find (λ (it : Member). number_of_class it.class == number_of_class class) members

-- the row of a scope in a run, where it has one
abbrev pub row_in : Measured → Scope → Option Row
row_in m (Queue at class) = option_map (λ (it : Member). it.row) (slice_get m.queues.items at)
row_in m (OfClass class) = option_map (λ (it : Member). it.row) (member_in m.classes.items class)
row_in m All = Some m.all

-- the number at an index of what may be a row
abbrev pub number_at : ℕ → Option Row → Option ℕ
number_at index None = None
number_at index (Some row) = get_or (numbers_of row) index None

-- the number at an index of a scope in a run, where it has one
abbrev pub number_in : ℕ → Scope → Run → Option ℕ
number_in index scope run = number_at index (row_in run.measured scope)

-- an estimate is that of the numbers at an index that runs have of a scope
abbrev pub IsOver : List Run → Scope → ℕ → Estimate → Type 0
IsOver runs scope index estimate = IsEstimate (filter_map (number_in index scope) runs) (length runs) estimate

-- an estimate that isn't told
abbrev pub untold : Estimate
untold = record { mean = None; half = None }

-- a row tells each number of a scope over runs, under the index of its name
pub record IsRowOver (runs : List Run) (scope : Scope) (row : SweepRow) : Type 0 where
  pub iops : IsOver runs scope 0 (get_or row.numbers 0 untold)
  pub mean : IsOver runs scope 1 (get_or row.numbers 1 untold)
  pub p50 : IsOver runs scope 2 (get_or row.numbers 2 untold)
  pub p95 : IsOver runs scope 3 (get_or row.numbers 3 untold)
  pub p99 : IsOver runs scope 4 (get_or row.numbers 4 untold)
  pub p999 : IsOver runs scope 5 (get_or row.numbers 5 untold)
  pub longest : IsOver runs scope 6 (get_or row.numbers 6 untold)

-- the scopes of a run: its queues, the classes that have one, and all
abbrev pub classes_of : List Member → List Class
classes_of queues = map (λ (it : Member). it.class) queues

abbrev pub scopes_by : List Class → List Scope
scopes_by classes = map (λ (p : ℕ × Class). Queue p.0 p.1) (enumerate_from 0 classes)

abbrev pub queue_scopes : List Member → List Scope
queue_scopes queues = scopes_by (classes_of queues)

abbrev pub class_scopes : List Member → List Scope
class_scopes classes = map (λ (it : Member). OfClass it.class) classes

abbrev pub scopes_of : Measured → List Scope
scopes_of m = (queue_scopes m.queues.items ++ class_scopes m.classes.items) ++ All ∷ []

-- the scopes of the first run
abbrev pub first_scopes : List Run → List Scope
first_scopes [] = []
first_scopes (run ∷ runs) = scopes_of run.measured

-- a row for each of these scopes, in their order, over all runs
pub record AreRowsFor (runs : List Run) (scopes : List Scope) (rows : List SweepRow) : Type 0 where
  pub of_each : map (λ (r : SweepRow). r.scope) rows ≡ scopes
  pub each : Each (λ (r : SweepRow). IsRowOver runs r.scope r) rows

-- a row for each scope of the first run
abbrev pub AreRowsOver : List Run → List SweepRow → Type 0
AreRowsOver runs rows = AreRowsFor runs (first_scopes runs) rows
