-- Laws of loaded logs: the log, posts left out, is one function of its workload (profile).
use Rattle.std.specs.Prelude.{◌≡◌, ℕ, ◌⊎◌, List, [], ◌∷◌, ◌++◌}
use Rattle.nvme_entry.specs.declared.submission.Sqe.{Sqe}
use Rattle.nvme_log.specs.declared.event.Event.{Event}
use Rattle.nvme_log.specs.Rules.{Past, FrontRules}
use Rattle.nvme_log.specs.Loaded.{IsLoadedLog}

-- an event is the oldest of some
abbrev pub IsOldest : Event → Past → Type 0
IsOldest e later = (rest : Past) × (later ≡ rest ++ e ∷ [])

-- of what comes after the same events: both logs end there, or both go on with the same event
abbrev pub GoOnAlike : Past → Past → Type 0
GoOnAlike one other = ((one ≡ []) × (other ≡ [])) ⊎ ((e : Event) × IsOldest e one × IsOldest e other)

-- two loaded logs of one workload that begin with the same events end there or go on alike
abbrev pub LoadedStepIsOne : Type 0
LoadedStepIsOne = (rules : FrontRules) (scripts : ℕ → List Sqe) (one other past : Past)
    → IsLoadedLog rules scripts (one ++ past) → IsLoadedLog rules scripts (other ++ past) → GoOnAlike one other

-- two loaded logs of one workload are one
abbrev pub LoadedLogIsOne : Type 0
LoadedLogIsOne = (rules : FrontRules) (scripts : ℕ → List Sqe) (one other : Past)
    → IsLoadedLog rules scripts one → IsLoadedLog rules scripts other → one ≡ other
