-- When the commands of a queue come, by what a file says. (profile)
use Rattle.std.specs.Prelude.{ℕ, ◌+◌, ◌^◌, ◌&&◌, nat_lt, if◌then◌else◌, Option, Some, None}
use Rattle.toml.specs.Data.{Data, Members, as_table}
use Rattle.nvme_model_form.specs.declared.key.Key.TheVariants as key
use Rattle.nvme_model_form.specs.Keys.{arrival_keys, burst_keys, replay_keys}
use Rattle.nvme_model_form.specs.Readings.{◌>>=◌, ◌>>◌, only_keys, value_in, whole}
use Rattle.nvme_model_form.specs.Times.{duration_at, duration_or_none, gap_of, mean_of}
use Rattle.nvme_model_form.specs.Views.{Coming, ByPoisson, ByGap, InBursts, BehindOthers, Replayed}

unfoldable pub poisson_of : Data → Option ℕ
poisson_of d = gap_of d >>= mean_of

unfoldable pub regular_of : Data → Option Coming
regular_of d = gap_of d >>= (λ gap. if nat_lt 0 gap then Some (ByGap gap) else None)

unfoldable pub closed_of : Data → Members → Option Coming
closed_of d table = do
  depth ← whole 1 4096 d
  think ← duration_or_none key.Think table
  Some (BehindOthers depth think)

abbrev pub phases_of : (mean on off : ℕ) → Option Coming
phases_of mean on off = if nat_lt 0 on && nat_lt (on + off) (2 ^ 64) then Some (InBursts mean on off) else None

unfoldable pub bursts_of : Data → Option Coming
bursts_of d = do
  table ← as_table d
  only_keys burst_keys table
  poisson ← value_in key.Poisson table
  mean ← poisson_of poisson
  on ← duration_at key.On table
  off ← duration_at key.Off table
  phases_of mean on off

-- by the one key of four that a table has, where none thinks but a closed host
abbrev pub drawn_by : Members → (poisson every closed bursts think : Option Data) → Option Coming
drawn_by table (Some d) None None None None = poisson_of d >>= (λ mean. Some (ByPoisson mean))
drawn_by table None (Some d) None None None = regular_of d
drawn_by table None None (Some d) None think = closed_of d table
drawn_by table None None None (Some d) None = bursts_of d
drawn_by table _ _ _ _ _ = None

unfoldable pub drawn_in : Members → Option Coming
drawn_in table = only_keys arrival_keys table >> drawn_by table (value_in key.Poisson table) (value_in key.Every table) (value_in key.Closed table) (value_in key.Bursts table) (value_in key.Think table)

-- where a table has the key of a file, that is replayed. What its other keys say is another matter (`sources_of`)
abbrev pub arrivals_by : Members → Option Data → Option Coming
arrivals_by table None = drawn_in table
arrivals_by table (Some d) = only_keys replay_keys table >> Some Replayed

abbrev pub arrivals_in : Members → Option Coming
arrivals_in table = arrivals_by table (value_in key.Replay table)

unfoldable pub arrivals_at : Members → Option Coming
arrivals_at queue = do
  d ← value_in key.Arrivals queue
  table ← as_table d
  arrivals_in table
