-- Laws of lawful picks and lawful runs, which test the definitions.
-- (Base Specification, Command Arbitration)
use Rattle.std.specs.Prelude.{◌≡◌, ◌≢◌, ◌↔◌, ℕ, ◌≤◌, ◌==◌, ◌++◌, true, List, [], find, Some, IsNone}
use Rattle.nvme_arbiter.specs.Settings.{ArbitrationFields, burst_of, weight_of, IsLevel}
use Rattle.nvme_arbiter.specs.Observation.{IsObservation, IsIdle, ready_of}
use Rattle.nvme_arbiter.specs.History.{History, settings_after, used_in_round}
use Rattle.nvme_arbiter.specs.Limits.{highest_count}
use Rattle.nvme_arbiter.specs.Lawful.{lawful_pick, limited_pick, IsLawfulPick, IsLawfulRun, IsLimitedPick, IsLimitedRun}
use Rattle.nvme_arbiter.specs.declared.settings.Class.{Class}
use Rattle.nvme_arbiter.specs.declared.settings.Class.TheVariants.{Admin, Urgent}
use Rattle.nvme_arbiter.specs.declared.settings.Mechanism.{Mechanism}
use Rattle.nvme_arbiter.specs.declared.settings.Mechanism.TheVariants.{Weighted}
use Rattle.nvme_arbiter.specs.declared.pick.Seen.{Seen}
use Rattle.nvme_arbiter.specs.declared.pick.Pick.{Pick}

-- the lawful pick is the only one
abbrev pub OneLawfulPick : Type 0
OneLawfulPick = (mechanism : Mechanism) (first : ArbitrationFields) (past : History) (seen : List Seen) (p q : Pick) → IsLawfulPick mechanism first past seen p → IsLawfulPick mechanism first past seen q → p ≡ q

-- a pick takes at least one command of a queue that was seen, and no more than the queue has, the burst allows and, of a level, the weight allows
pub record IsMeasured (mechanism : Mechanism) (settings : ArbitrationFields) (seen : List Seen) (pick : Pick) : Type 0 where
  pub queue : Seen
  pub was_seen : find (λ s. s.qid == pick.qid) seen ≡ Some queue
  pub at_least_one : 1 ≤ pick.n
  pub within_count : pick.n ≤ queue.count
  pub within_burst : (burst : ℕ) → burst_of settings ≡ Some burst → pick.n ≤ burst
  pub within_weight : mechanism ≡ Weighted → IsLevel queue.class → pick.n ≤ weight_of settings queue.class

abbrev pub LawfulPicksAreMeasured : Type 0
LawfulPicksAreMeasured = (mechanism : Mechanism) (first : ArbitrationFields) (past : History) (seen : List Seen) (pick : Pick) → IsObservation seen → IsLawfulPick mechanism first past seen pick → IsMeasured mechanism (settings_after first past) seen pick

-- a new round is due: some level is ready, admin and urgent are not, and no ready level has credit
pub record IsRoundOver (settings : ArbitrationFields) (used : Class → ℕ) (seen : List Seen) : Type 0 where
  pub no_admin : ready_of Admin seen ≡ []
  pub no_urgent : ready_of Urgent seen ≡ []
  pub ready_level : (level : Class) × IsLevel level × (ready_of level seen ≢ [])
  pub spent : (level : Class) → IsLevel level → ready_of level seen ≢ [] → weight_of settings level ≤ used level

-- a weighted pick is fresh exactly where a new round is due
abbrev pub FreshWhereDue : Type 0
FreshWhereDue = (first : ArbitrationFields) (past : History) (seen : List Seen) (pick : Pick) → IsLimitedPick Weighted first past seen pick → (pick.fresh ≡ true) ↔ IsRoundOver (settings_after first past) (λ level. used_in_round level past) seen

-- the events of a lawful run up to any of them are a lawful run
abbrev pub PrefixesAreLawful : Type 0
PrefixesAreLawful = (mechanism : Mechanism) (first : ArbitrationFields) (later past : History) → IsLawfulRun mechanism first (later ++ past) → IsLawfulRun mechanism first past

-- in a lawful weighted run no more of a level was picked in this round than its weight
abbrev pub UsedIsWithinWeight : Type 0
UsedIsWithinWeight = (first : ArbitrationFields) (past : History) (level : Class) → IsLimitedRun Weighted first past → IsLevel level → used_in_round level past ≤ weight_of (settings_after first past) level

-- nothing is picked exactly where every count is 0
abbrev pub NoneWhereIdle : Type 0
NoneWhereIdle = (mechanism : Mechanism) (first : ArbitrationFields) (past : History) (seen : List Seen) → IsNone (lawful_pick mechanism first past seen) ↔ IsIdle seen

-- ---- limits
-- a pick that is lawful for some limit is measured as a lawful one
abbrev pub LimitedPicksAreMeasured : Type 0
LimitedPicksAreMeasured = (mechanism : Mechanism) (first : ArbitrationFields) (past : History) (seen : List Seen) (pick : Pick) → IsObservation seen → IsLimitedPick mechanism first past seen pick → IsMeasured mechanism (settings_after first past) seen pick

-- what is picked with a limit of at least 1 is lawful for some limit, and takes no more than its own
abbrev pub LimitsArePicks : Type 0
LimitsArePicks = (limit : ℕ) (mechanism : Mechanism) (first : ArbitrationFields) (past : History) (seen : List Seen) (pick : Pick) → IsObservation seen → 1 ≤ limit → limited_pick limit mechanism first past seen ≡ Some pick → IsLimitedPick mechanism first past seen pick × (pick.n ≤ limit)

-- and what is lawful for some limit is what is picked with its own number as the limit
abbrev pub PicksAreOfLimits : Type 0
PicksAreOfLimits = (mechanism : Mechanism) (first : ArbitrationFields) (past : History) (seen : List Seen) (pick : Pick) → IsLimitedPick mechanism first past seen pick → limited_pick pick.n mechanism first past seen ≡ Some pick

-- a lawful run is one with limits
abbrev pub LawfulRunsAreLimited : Type 0
LawfulRunsAreLimited = (mechanism : Mechanism) (first : ArbitrationFields) (past : History) → IsLawfulRun mechanism first past → IsLimitedRun mechanism first past

-- a limit of as many commands as may wait in a queue cuts nothing
abbrev pub WideLimitsCutNothing : Type 0
WideLimitsCutNothing = (limit : ℕ) (mechanism : Mechanism) (first : ArbitrationFields) (past : History) (seen : List Seen) → IsObservation seen → highest_count ≤ limit → limited_pick limit mechanism first past seen ≡ lawful_pick mechanism first past seen

-- the events of a run with limits up to any of them are one
abbrev pub LimitedPrefixes : Type 0
LimitedPrefixes = (mechanism : Mechanism) (first : ArbitrationFields) (later past : History) → IsLimitedRun mechanism first (later ++ past) → IsLimitedRun mechanism first past
