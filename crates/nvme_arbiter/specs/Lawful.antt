-- Lawful picks and lawful runs (Base Specification, Command Arbitration).
use Rattle.std.specs.Prelude.{◌≡◌, ℕ, ◌≤◌, min, List, [], ◌∷◌, Option, Some, option_map}
use Rattle.nvme_arbiter.specs.Settings.{ArbitrationFields}
use Rattle.nvme_arbiter.specs.Observation.{IsObservation}
use Rattle.nvme_arbiter.specs.History.{Picked, Changed, History, settings_after, last_served, last_served_of, used_in_round}
use Rattle.nvme_arbiter.specs.Rules.{round_robin_pick, weighted_pick}
use Rattle.nvme_arbiter.specs.declared.settings.Mechanism.{Mechanism}
use Rattle.nvme_arbiter.specs.declared.settings.Mechanism.TheVariants.{RoundRobin, Weighted}
use Rattle.nvme_arbiter.specs.declared.pick.Seen.{Seen}
use Rattle.nvme_arbiter.specs.declared.pick.Pick.{Pick}

-- the pick that arbitration makes of an observation after a history, under the settings then in force. There is none where nothing is ready
abbrev pub lawful_pick : Mechanism → ArbitrationFields → History → List Seen → Option Pick
lawful_pick RoundRobin first past seen = round_robin_pick (settings_after first past) (last_served past) seen
lawful_pick Weighted first past seen = weighted_pick (settings_after first past) (λ class. last_served_of class past) (λ level. used_in_round level past) seen

-- a pick is lawful after a history
abbrev pub IsLawfulPick : Mechanism → ArbitrationFields → History → List Seen → Pick → Type 0
IsLawfulPick mechanism first past seen pick = lawful_pick mechanism first past seen ≡ Some pick

-- each pick of the history is made on an observation and is lawful after the events before it
abbrev pub IsLawfulRun : Mechanism → ArbitrationFields → History → Type 0
IsLawfulRun mechanism first [] = Unit {0}
IsLawfulRun mechanism first (Changed settings ∷ past) = IsLawfulRun mechanism first past
IsLawfulRun mechanism first (Picked seen pick ∷ past) = IsObservation seen × IsLawfulPick mechanism first past seen pick × IsLawfulRun mechanism first past

-- ---- picks with a limit: the burst is the most that may be taken, and a device that has room for fewer commands takes fewer
-- a pick that takes at most so many commands
abbrev pub cut : ℕ → Pick → Pick
cut limit pick = record pick { n = min pick.n limit }

-- the pick that arbitration makes where there is room for so many commands: the same queue, the least of burst, credit, what waits and the limit
abbrev pub limited_pick : ℕ → Mechanism → ArbitrationFields → History → List Seen → Option Pick
limited_pick limit mechanism first past seen = option_map (cut limit) (lawful_pick mechanism first past seen)

-- a pick takes no more than another of the same queue
pub record IsCutOf (whole pick : Pick) : Type 0 where
  pub qid : pick.qid ≡ whole.qid
  pub fresh : pick.fresh ≡ whole.fresh
  pub few : pick.n ≤ whole.n

-- a pick is lawful for some limit: it takes at least one command, and no more than the lawful pick
pub record IsLimitedPick (mechanism : Mechanism) (first : ArbitrationFields) (past : History) (seen : List Seen) (pick : Pick) : Type 0 where
  pub whole : Pick
  pub lawful : IsLawfulPick mechanism first past seen whole
  pub is_cut : IsCutOf whole pick
  pub some : 1 ≤ pick.n

-- each pick of the history is made on an observation and is lawful for some limit after the events before it
abbrev pub IsLimitedRun : Mechanism → ArbitrationFields → History → Type 0
IsLimitedRun mechanism first [] = Unit {0}
IsLimitedRun mechanism first (Changed settings ∷ past) = IsLimitedRun mechanism first past
IsLimitedRun mechanism first (Picked seen pick ∷ past) = IsObservation seen × IsLimitedPick mechanism first past seen pick × IsLimitedRun mechanism first past
