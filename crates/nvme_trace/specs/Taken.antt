-- Which picks of a trace are taken for those that this front makes: `fresh` is no matter where a round begins by itself. (profile)
use Rattle.std.specs.Prelude.{◌≡◌, ℕ, ◌==◌, ◌&&◌, Bool, false, not, List, [], ◌∷◌, ◌++◌, Option, Some, None, IfSome, ◌≤◌}
use Rattle.nvme_arbiter.specs.Settings.{ArbitrationFields}
use Rattle.nvme_arbiter.specs.Observation.{IsObservation}
use Rattle.nvme_arbiter.specs.History.{Picked, Changed, History, used_in_round}
use Rattle.nvme_arbiter.specs.Lawful.{lawful_pick, limited_pick, IsLawfulRun, IsLimitedRun}
use Rattle.nvme_arbiter.specs.declared.settings.Class.TheVariants.{High, Medium, Low}
use Rattle.nvme_arbiter.specs.declared.settings.Mechanism.{Mechanism}
use Rattle.nvme_arbiter.specs.declared.settings.Mechanism.TheVariants.{RoundRobin, Weighted}
use Rattle.nvme_arbiter.specs.declared.pick.Seen.{Seen}
use Rattle.nvme_arbiter.specs.declared.pick.Pick.{Pick}

-- whether nothing was picked of a level in the round. The first round, and one after a change of the settings, begins by itself, and is so until a level is picked.
-- Round robin has no rounds
abbrev pub is_unused : Mechanism → History → Bool
is_unused RoundRobin past = false
is_unused Weighted past = (used_in_round High past == 0) && ((used_in_round Medium past == 0) && (used_in_round Low past == 0))

-- a pick as this front writes it: while nothing is used in the round, it isn't fresh
abbrev pub as_written : Mechanism → History → Pick → Pick
as_written mechanism past pick = record pick { fresh = pick.fresh && not (is_unused mechanism past) }

-- the pick that this front makes where the device has room for so many commands, or without a limit
abbrev pub pick_within : Option ℕ → Mechanism → ArbitrationFields → History → List Seen → Option Pick
pick_within None mechanism first past seen = lawful_pick mechanism first past seen
pick_within (Some room) mechanism first past seen = limited_pick room mechanism first past seen

-- a pick is taken after a history where it is, written so, the one that this front makes in the room that is told
abbrev pub IsTakenPick : Mechanism → ArbitrationFields → History → Option ℕ → List Seen → Pick → Type 0
IsTakenPick mechanism first past room seen pick = pick_within room mechanism first past seen ≡ Some (as_written mechanism past pick)

-- the room at the latest event of a history, and those at the events before it. Where there is no more, none is told
abbrev pub latest_room : List (Option ℕ) → Option ℕ
latest_room [] = None
latest_room (room ∷ rooms) = room

abbrev pub earlier_rooms : List (Option ℕ) → List (Option ℕ)
earlier_rooms [] = []
earlier_rooms (room ∷ rooms) = rooms

-- each pick of the history is made on an observation, and is taken after the events before it, in the room told at it
abbrev pub IsTakenRun : Mechanism → ArbitrationFields → History → List (Option ℕ) → Type 0
IsTakenRun mechanism first [] rooms = Unit {0}
IsTakenRun mechanism first (Changed settings ∷ past) rooms = IsTakenRun mechanism first past (earlier_rooms rooms)
IsTakenRun mechanism first (Picked seen pick ∷ past) rooms =
    IsObservation seen × IsTakenPick mechanism first past (latest_room rooms) seen pick × IsTakenRun mechanism first past (earlier_rooms rooms)

-- the same of events that follow a history
abbrev pub IsTakenAfter : Mechanism → ArbitrationFields → History → History → List (Option ℕ) → Type 0
IsTakenAfter mechanism first prior [] rooms = Unit {0}
IsTakenAfter mechanism first prior (Changed settings ∷ past) rooms = IsTakenAfter mechanism first prior past (earlier_rooms rooms)
IsTakenAfter mechanism first prior (Picked seen pick ∷ past) rooms =
    IsObservation seen × IsTakenPick mechanism first (past ++ prior) (latest_room rooms) seen pick × IsTakenAfter mechanism first prior past (earlier_rooms rooms)

-- no room is told, or none of 0
abbrev pub TellNoRoom : List (Option ℕ) → Type 0
TellNoRoom [] = Unit {0}
TellNoRoom (room ∷ rooms) = (room ≡ None) × TellNoRoom rooms

abbrev pub TellSomeRoom : List (Option ℕ) → Type 0
TellSomeRoom [] = Unit {0}
TellSomeRoom (room ∷ rooms) = IfSome room (λ n. 1 ≤ n) × TellSomeRoom rooms

-- a history with each pick as this front writes it
abbrev pub written : Mechanism → History → History
written mechanism [] = []
written mechanism (Changed settings ∷ past) = Changed settings ∷ written mechanism past
written mechanism (Picked seen pick ∷ past) = Picked seen (as_written mechanism past pick) ∷ written mechanism past

-- what is taken without a room is lawful as this front writes it
abbrev pub TakenRunsAreLawful : Type 0
TakenRunsAreLawful = (mechanism : Mechanism) (first : ArbitrationFields) (past : History) (rooms : List (Option ℕ)) → TellNoRoom rooms → IsTakenRun mechanism first past rooms → IsLawfulRun mechanism first (written mechanism past)

-- what is taken in some room is lawful with limits
abbrev pub TakenRunsAreLimited : Type 0
TakenRunsAreLimited = (mechanism : Mechanism) (first : ArbitrationFields) (past : History) (rooms : List (Option ℕ)) → TellSomeRoom rooms → IsTakenRun mechanism first past rooms → IsLimitedRun mechanism first (written mechanism past)

-- the same of what is taken after a lawful history
abbrev pub TakenAfterIsLawful : Type 0
TakenAfterIsLawful = (mechanism : Mechanism) (first : ArbitrationFields) (prior past : History) (rooms : List (Option ℕ)) → TellNoRoom rooms → IsLawfulRun mechanism first prior → IsTakenAfter mechanism first prior past rooms → IsLawfulRun mechanism first (written mechanism (past ++ prior))

abbrev pub TakenAfterIsLimited : Type 0
TakenAfterIsLimited = (mechanism : Mechanism) (first : ArbitrationFields) (prior past : History) (rooms : List (Option ℕ)) → TellSomeRoom rooms → IsLawfulRun mechanism first prior → IsTakenAfter mechanism first prior past rooms → IsLimitedRun mechanism first (written mechanism (past ++ prior))

-- what is lawful is taken where no room is told
abbrev pub LawfulRunsAreTaken : Type 0
LawfulRunsAreTaken = (mechanism : Mechanism) (first : ArbitrationFields) (past : History) (rooms : List (Option ℕ)) → TellNoRoom rooms → IsLawfulRun mechanism first past → IsTakenRun mechanism first past rooms
