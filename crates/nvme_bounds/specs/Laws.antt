-- Laws of waits. (profile)
use Rattle.std.specs.Prelude.{◌≡◌, ◌<◌, ◌≤◌, ℕ, ◌+◌, Some, All, List, count_by}
use Rattle.nvme_arbiter.specs.History.{History, settings_after}
use Rattle.nvme_arbiter.specs.Service.{Turn}
use Rattle.nvme_arbiter.specs.Settings.{ArbitrationFields}
use Rattle.nvme_arbiter.specs.declared.settings.Class.{Class}
use Rattle.nvme_arbiter.specs.declared.settings.Mechanism.{Mechanism}
use Rattle.nvme_bounds.specs.Before.{most_before}
use Rattle.nvme_bounds.specs.Runs.{Run, IsBusy, LastAtMost, ends_between, time_behind}
use Rattle.nvme_bounds.specs.Stretches.{Waits, commands_of, counts}

-- while a queue waits, no more commands are picked of others than the bound says
abbrev pub FewComeBefore : Type 0
FewComeBefore = (mechanism : Mechanism) (first : ArbitrationFields) (past : History) (ids : Class → List ℕ) (most : ℕ) (class : Class) (qid : ℕ) (turns : List Turn)
    → Waits mechanism first past ids most class qid turns
    → (bound : ℕ) → most_before mechanism (settings_after first past) (counts ids) most class ≡ Some bound
    → commands_of turns ≤ bound

-- where so many commands run at least, one at least, and none takes longer, so many and one more can't take longer to end
abbrev pub EndsComeInTime : Type 0
EndsComeInTime = (runs : List Run) (longest least commands from to : ℕ) → LastAtMost longest runs → 0 < least → IsBusy least from to runs
    → count_by (ends_between from to) runs ≤ commands → to ≤ from + time_behind commands least longest

-- what is known of a queue that waits from one time until another: the picks between, and the commands that ran. Each of these that ended between made room
-- for one that was picked
pub record IsWait (mechanism : Mechanism) (first : ArbitrationFields) (past : History) (ids : Class → List ℕ) (most : ℕ) (class : Class) (qid : ℕ) (turns : List Turn)
    (runs : List Run) (longest least from to : ℕ) : Type 0 where
  pub picks : Waits mechanism first past ids most class qid turns
  pub lasts : LastAtMost longest runs
  pub some : 0 < least
  pub busy : IsBusy least from to runs
  pub refilled : count_by (ends_between from to) runs ≤ commands_of turns

-- it waits no longer than the bounds say
abbrev pub WaitsAreShort : Type 0
WaitsAreShort = (mechanism : Mechanism) (first : ArbitrationFields) (past : History) (ids : Class → List ℕ) (most : ℕ) (class : Class) (qid : ℕ) (turns : List Turn)
    (runs : List Run) (longest least from to : ℕ) → IsWait mechanism first past ids most class qid turns runs longest least from to
    → (bound : ℕ) → most_before mechanism (settings_after first past) (counts ids) most class ≡ Some bound
    → to ≤ from + time_behind bound least longest
