-- Runs that this front makes where the device has room for so many commands. (profile)
use Rattle.std.specs.Prelude.{◌≡◌, ℕ, List, [], ◌∷◌, Option, Some}
use Rattle.nvme_arbiter.specs.Settings.{ArbitrationFields}
use Rattle.nvme_arbiter.specs.Observation.{IsObservation}
use Rattle.nvme_arbiter.specs.History.{Picked, Changed, History}
use Rattle.nvme_arbiter.specs.declared.settings.Mechanism.{Mechanism}
use Rattle.nvme_trace.specs.Taken.{pick_within, latest_room, earlier_rooms, IsTakenRun, TellSomeRoom}

-- each pick of the history is made on an observation, and is the one that this front makes after the events before it, in the room told at it
abbrev pub IsRunWithin : Mechanism → ArbitrationFields → History → List (Option ℕ) → Type 0
IsRunWithin mechanism first [] rooms = Unit {0}
IsRunWithin mechanism first (Changed settings ∷ past) rooms = IsRunWithin mechanism first past (earlier_rooms rooms)
IsRunWithin mechanism first (Picked seen pick ∷ past) rooms =
    IsObservation seen × (pick_within (latest_room rooms) mechanism first past seen ≡ Some pick) × IsRunWithin mechanism first past (earlier_rooms rooms)

-- what is made within rooms is taken where they are told
abbrev pub RunsWithinAreTaken : Type 0
RunsWithinAreTaken = (mechanism : Mechanism) (first : ArbitrationFields) (past : History) (rooms : List (Option ℕ)) → TellSomeRoom rooms → IsRunWithin mechanism first past rooms → IsTakenRun mechanism first past rooms
