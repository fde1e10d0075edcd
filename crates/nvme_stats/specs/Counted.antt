-- What is counted of a trace's events. (profile)
use Rattle.std.specs.Prelude.{◌≡◌, ℕ, ◌+◌, ◌-◌, ◌^◌, min, [], ◌∷◌}
use Rattle.nvme_arbiter.specs.History.{ArbitrationEvent, Picked, Changed, History, settings_after}
use Rattle.nvme_trace.specs.Judged.{picks_in}
use Rattle.nvme_trace.specs.declared.records.Head.{Head}
use Rattle.nvme_stats.specs.declared.statistics.Statistics.{Statistics}

-- a count of 64 bits stops at its highest
abbrev pub capped : ℕ → ℕ
capped n = min n (2 ^ 64 - 1)

abbrev pub commands_of : ArbitrationEvent → ℕ
commands_of (Picked seen pick) = pick.n
commands_of (Changed settings) = 0

abbrev pub commands_in : History → ℕ
commands_in [] = 0
commands_in (e ∷ past) = commands_in past + commands_of e

abbrev pub changes_of : ArbitrationEvent → ℕ
changes_of (Picked seen pick) = 0
changes_of (Changed settings) = 1

abbrev pub changes_in : History → ℕ
changes_in [] = 0
changes_in (e ∷ past) = changes_in past + changes_of e

-- the statistics are those of a head and events
pub record IsCounted (head : Head) (past : History) (counted : Statistics) : Type 0 where
  pub mechanism : counted.mechanism ≡ head.mechanism
  pub settings : counted.settings ≡ settings_after head.settings past
  pub picks : counted.picks ≡ capped (picks_in past)
  pub commands : counted.commands ≡ capped (commands_in past)
  pub changes : counted.changes ≡ capped (changes_in past)
