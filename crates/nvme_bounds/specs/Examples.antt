-- Worked examples. (profile)
use Rattle.std.specs.Prelude.{◌≡◌, ℕ, ◌+◌, Some, None}
use Rattle.nvme_arbiter.specs.Settings.{settings_of}
use Rattle.nvme_arbiter.specs.declared.settings.Class.{Class}
use Rattle.nvme_arbiter.specs.declared.settings.Class.TheVariants.{Admin, Urgent, High, Medium, Low}
use Rattle.nvme_arbiter.specs.declared.settings.Mechanism.TheVariants.{RoundRobin, Weighted}
use Rattle.nvme_bounds.specs.Before.{most_before}
use Rattle.nvme_bounds.specs.Runs.{time_behind}

abbrev pub queues : (admin urgent high medium low : ℕ) → Class → ℕ
queues admin urgent high medium low Admin = admin
queues admin urgent high medium low Urgent = urgent
queues admin urgent high medium low High = high
queues admin urgent high medium low Medium = medium
queues admin urgent high medium low Low = low

-- High 8, Medium 4, Low 2 and burst 8 (CDW11 0x07030103)
pub record BoundExamples : Type 0 where
  pub alone : most_before Weighted (settings_of 0x0703_0103) (queues 0 0 0 0 1) 1 Low ≡ Some 0
  pub low : most_before Weighted (settings_of 0x0703_0103) (queues 0 0 1 1 1) 1 Low ≡ Some 24
  pub medium : most_before Weighted (settings_of 0x0703_0103) (queues 0 0 1 1 1) 1 Medium ≡ Some 18
  pub high : most_before Weighted (settings_of 0x0703_0103) (queues 0 0 1 1 1) 1 High ≡ Some 6
  pub no_medium : most_before Weighted (settings_of 0x0703_0103) (queues 0 0 1 0 1) 1 Low ≡ Some 16
  pub four_low : most_before Weighted (settings_of 0x0703_0103) (queues 0 0 1 1 4) 1 Low ≡ Some 39
  pub by_burst : most_before Weighted (settings_of 0x0703_0103) (queues 0 0 1 1 4) 256 Low ≡ Some 66
  pub urgent : most_before Weighted (settings_of 0x0703_0103) (queues 0 3 1 1 1) 1 Urgent ≡ Some 2
  pub behind_urgent : most_before Weighted (settings_of 0x0703_0103) (queues 0 1 1 1 1) 1 High ≡ None
  pub round_robin : most_before RoundRobin (settings_of 0x0703_0103) (queues 0 1 1 1 1) 256 High ≡ Some 24
  pub one_channel : time_behind 24 1 80 ≡ 2000
  pub four_channels : time_behind 24 4 80 ≡ 560
