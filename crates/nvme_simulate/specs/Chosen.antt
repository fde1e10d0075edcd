-- What options say in place of a simulation file. (profile)
use Rattle.std.specs.Prelude.{◌≡◌, ℕ, Option, Some, None, IsSomeAnd, Ok, Err}
use Rattle.nvme_clock.specs.Durations.{duration_in}
use Rattle.nvme_model.specs.declared.model.End.{End}
use Rattle.nvme_model.specs.declared.model.TheConstants.{MAX_COMMANDS}
use Rattle.nvme_model.specs.Models.{TellsEndFault}
use Rattle.nvme_simulate.specs.declared.overrides.OverrideFault.{OverrideFault}
use Rattle.nvme_simulate.specs.declared.overrides.OverrideFault.TheVariants.{Commands, Time, TwoEnds, Load as NoLoad}
use Rattle.nvme_simulate.specs.declared.target.Load.{Load}
use Rattle.nvme_simulate.specs.Options.{Text, load_in}

-- the load of a text, where there is one
abbrev pub IsLoadOf : Option Text → Option Load → Type 0
IsLoadOf None load = load ≡ None
IsLoadOf (Some text) load = IsSomeAnd load (λ l. load_in text ≡ Ok l.millionths)

-- the end of so many commands, or of the text of a time. Both together are none
abbrev pub IsEndOf : Option ℕ → Option Text → Option End → Type 0
IsEndOf None None end = end ≡ None
IsEndOf (Some commands) None end = IsSomeAnd end (λ e. (e.commands ≡ commands) × (e.time ≡ None))
IsEndOf None (Some text) end = IsSomeAnd end (λ e. (e.commands ≡ MAX_COMMANDS) × ((time : ℕ) × ((duration_in text ≡ Ok time) × (e.time ≡ Some time))))
IsEndOf (Some commands) (Some text) end = ⊥

-- why options are refused
abbrev pub TellsOverrideFault : Option ℕ → Option Text → Option Text → OverrideFault → Type 0
TellsOverrideFault commands time load (Commands e) = IsSomeAnd commands (λ n. TellsEndFault n e)
TellsOverrideFault commands time load (Time e) = IsSomeAnd time (λ text. duration_in text ≡ Err e)
TellsOverrideFault commands time load TwoEnds = IsSomeAnd commands (λ n. IsSomeAnd time (λ text. Unit {0}))
TellsOverrideFault commands time load (NoLoad e) = IsSomeAnd load (λ text. load_in text ≡ Err e)
