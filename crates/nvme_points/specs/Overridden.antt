-- The options that would stand in place of a swept key. (profile)
use Rattle.std.specs.Prelude.{◌≡◌, List, [], ◌∷◌, ◌||◌, if◌then◌else◌, codes, option_map, Option, Some, None}
use Rattle.std.specs.Option.{option_map_or}
use Rattle.std.specs.Str.{bytes_eq}
use Rattle.nvme_model.specs.declared.model.End.{End}
use Rattle.nvme_simulate.specs.declared.overrides.Overrides.{Overrides}
use Rattle.nvme_points.specs.Documents.{Text}
use Rattle.nvme_points.specs.declared.axis.Axis.{Axis}
use Rattle.nvme_points.specs.declared.fault.SweepFault.{SweepFault}
use Rattle.nvme_points.specs.declared.fault.SweepFault.TheVariants as fault

-- the option that said when a simulation ends
abbrev pub end_option : End → Text
end_option end = option_map_or (λ time. codes "--time") end.time (codes "--commands")

-- the option in place of a key, where one was given
abbrev pub option_for : Overrides → (key : Text) → Option Text
option_for options key =
    if bytes_eq key (codes "load") then option_map (λ load. codes "--load") options.load
    else (if bytes_eq key (codes "simulation.seed") then option_map (λ seed. codes "--seed") options.seed
    else (if bytes_eq key (codes "simulation.warm_up") then option_map (λ n. codes "--warm-up") options.warm_up
    else (if bytes_eq key (codes "simulation.commands") || bytes_eq key (codes "simulation.time") then option_map end_option options.end
    else None)))

-- the first key in whose place one stands, behind that option
abbrev pub overridden_by : Option Text → (key : Text) → Option (Text × Text) → Option (Text × Text)
overridden_by None key rest = rest
overridden_by (Some option) key rest = Some (option, key)

abbrev pub overridden : Overrides → List Axis → Option (Text × Text)
overridden options [] = None
overridden options (axis ∷ axes) = overridden_by (option_for options axis.key.now) axis.key.now (overridden options axes)

-- a fault tells of this option and this key
abbrev pub TellsOverridden : Text × Text → SweepFault → Type 0
TellsOverridden (option, key) (fault.Overridden given swept) = (given.now ≡ option) × (swept.now ≡ key)
TellsOverridden p _ = ⊥
