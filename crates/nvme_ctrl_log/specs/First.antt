-- The table with which a controller begins (profile).
use Rattle.std.specs.Prelude.{◌≡◌, ℕ, [], ◌∷◌, Option, Some, None}
use Rattle.nvme_arbiter.specs.Settings.{ArbitrationFields}
use Rattle.nvme_arbiter.specs.declared.settings.Mechanism.{Mechanism}
use Rattle.nvme_admin.specs.Accepted.{queue_table}
use Rattle.nvme_admin.specs.History.{RegionAdded, PlacedAnywhere, Submission, Completion, TableHistory, Placing}
use Rattle.nvme_log.specs.Rules.{FrontRules}
use Rattle.nvme_placing.specs.Telling.{Tells}
use Rattle.nvme_placing.specs.declared.table.PlacedTable.{PlacedTable}

-- the first step of a table history, where queues may lie anywhere
abbrev pub first_steps : Option Placing → TableHistory
first_steps None = []
first_steps (Some placing) = PlacedAnywhere placing ∷ []

-- a table is that of these rules, whose regions are the admin queues' alone, of these numbers of slots
pub record IsFirst (rules : FrontRules) (mechanism : Mechanism) (settings : ArbitrationFields) (table : PlacedTable) (sq_slots cq_slots : ℕ) : Type 0 where
  pub mechanism_is : rules.mechanism ≡ mechanism
  pub settings_are : rules.start.settings ≡ settings
  pub placing : Option Placing
  pub sq_address : ℕ
  pub cq_address : ℕ
  pub regions_are : rules.regions ≡ RegionAdded Completion cq_address cq_slots ∷ RegionAdded Submission sq_address sq_slots ∷ first_steps placing
  pub tells : Tells table (queue_table rules.start rules.regions)
