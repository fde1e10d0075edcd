-- Which commands wait in their host for a slot of the ring. (profile)
use Rattle.std.specs.Prelude.{ℕ, Bool, true, false, List, option_map, slice_get, unwrap_or}
use Rattle.nvme_simulation.specs.declared.flight.Flight.{Flight}
use Rattle.nvme_simulation.specs.declared.flight.Stage.{Stage}
use Rattle.nvme_simulation.specs.declared.flight.Stage.TheVariants.{Came}

abbrev pub waits : Stage → Bool
waits Came = true
waits stage = false

-- so the command at a place of a list
abbrev pub waits_at : List Flight → ℕ → Bool
waits_at kept k = unwrap_or (option_map (λ x. waits x.stage) (slice_get kept k)) false
