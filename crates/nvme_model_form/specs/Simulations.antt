-- How long a simulation goes, and its seed. (profile)
use Rattle.std.specs.Prelude.{ℕ, Option, Some, None}
use Rattle.toml.specs.Data.{Data, Members, as_table}
use Rattle.nvme_model.specs.declared.model.TheConstants.{MAX_COMMANDS}
use Rattle.nvme_model_form.specs.declared.key.Key.TheVariants as key
use Rattle.nvme_model_form.specs.declared.simulation.Simulation.{Simulation}
use Rattle.nvme_model_form.specs.Keys.{simulation_keys}
use Rattle.nvme_model_form.specs.Readings.{◌>>=◌, ◌>>◌, only_keys, value_in, number_or, whole}
use Rattle.nvme_model_form.specs.Times.{duration_of}
use Rattle.nvme_model_form.specs.Views.{Ending, ending_of}

pub record Lasting : Type 0 where
  pub seed : ℕ
  pub ending : Ending
  pub warm_up : ℕ

abbrev pub ending_after : ℕ → Ending
ending_after commands = record { commands = commands; time = None }

-- by what is at `commands` and `time`, of which a table has one at most
abbrev pub ending_by : (commands time : Option Data) → Option Ending
ending_by None None = Some (ending_after 100000)
ending_by (Some d) None = whole 1 MAX_COMMANDS d >>= (λ commands. Some (ending_after commands))
ending_by None (Some d) = duration_of d >>= (λ time. Some (record { commands = MAX_COMMANDS; time = Some time }))
ending_by (Some d) (Some e) = None

abbrev pub ending_in : Members → Option Ending
ending_in table = ending_by (value_in key.Commands table) (value_in key.Time table)

unfoldable pub lasting_of : Members → Option Lasting
lasting_of table = do
  only_keys simulation_keys table
  seed ← number_or key.Seed 1 0 9223372036854775807 table
  ending ← ending_in table
  warm_up ← number_or key.WarmUp 0 0 MAX_COMMANDS table
  Some (record { seed = seed; ending = ending; warm_up = warm_up })

abbrev pub optional_lasting : Option Data → Option Lasting
optional_lasting None = Some (record { seed = 1; ending = ending_after 100000; warm_up = 0 })
optional_lasting (Some d) = as_table d >>= lasting_of

-- a file may leave its table `simulation` out
unfoldable pub lasting_at : Members → Option Lasting
lasting_at file = optional_lasting (value_in key.Simulation file)

abbrev pub lasting : Simulation → Lasting
lasting s = record { seed = s.seed; ending = ending_of s.end; warm_up = s.warm_up }
