-- What a controller notes between picks: nothing that arbitration goes by, but which commands wait. (profile)
use Rattle.std.specs.Prelude.{◌≡◌, ◌++◌, Bool, true, false, nat_lt, All, List}
use Rattle.nvme_arbiter.specs.Settings.{ArbitrationFields}
use Rattle.nvme_arbiter.specs.declared.settings.Mechanism.{Mechanism}
use Rattle.nvme_log.specs.Rules.{FrontRules}
use Rattle.nvme_log.specs.declared.event.Event.TheVariants.{Fetch, Post}
use Rattle.nvme_ctrl_log.specs.Notes.{Notes, Note, Logged, Passed, Held, Classed}
use Rattle.nvme_ctrl_log.specs.Steps.{picked_notes}
use Rattle.nvme_ctrl.specs.Calls.{depths_of}
use Rattle.nvme_ctrl.specs.Standing.{Stands}
use Rattle.nvme_ctrl.specs.declared.state.Controller.{Controller}
use Rattle.nvme_slots.specs.declared.slot.Slot.{Slot}
use Rattle.nvme_simulation.specs.Fronts.{IsFront, IsFrontOf, StandsBy}
use Rattle.nvme_simulation.specs.declared.front.Front.{Front}
use Rattle.nvme_simulation.specs.declared.happening.Happening.{Happening}
use Rattle.nvme_simulation.specs.declared.happening.Happening.TheVariants.{Picked}

-- a command is read, none of the admin queue, or one is taken, answered or completed, or a doorbell is rung: no command is picked, no queue is opened, closed,
-- held or given a class, and the settings stay
abbrev pub is_quiet : Note → Bool
is_quiet (Logged (Fetch r i entry)) = nat_lt 0 r
is_quiet (Logged (Post c r i cqe)) = true
is_quiet (Logged event) = false
is_quiet (Passed i) = false
is_quiet (Held q on) = false
is_quiet (Classed q class) = false
is_quiet note = true

abbrev pub AreQuiet : Notes → Type 0
AreQuiet notes = All (λ note. is_quiet note ≡ true) notes

-- a controller stands at these notes and such ones behind them
pub record StandsBehind (rules : FrontRules) (late : Bool) (notes : Notes) (c : Controller) (slots : List Slot) : Type 0 where
  pub later : Notes
  pub quiet : AreQuiet later
  pub stands : Stands rules late (later ++ notes) c slots

-- a controller notes only such
abbrev pub Quietly : (before after : Front) → Type 0
Quietly before after = (rules : FrontRules) (late : Bool) (notes : Notes) → StandsBy rules late notes before → StandsBehind rules late notes after.controller after.pool.items

-- so it goes on: it stands, each queue has its depth, and it arbitrates as it did
pub record GoesFront (before after : Front) : Type 0 where
  pub is : IsFront after
  pub depths : depths_of after.controller ≡ depths_of before.controller
  pub arbitrates : (mechanism : Mechanism) (settings : ArbitrationFields) → IsFrontOf mechanism settings before → IsFrontOf mechanism settings after
  pub quiet : Quietly before after

-- what a step notes: the pick that it tells, on exactly what arbitration sees, and else nothing that arbitration goes by
abbrev pub NotesAs : Happening → (before after : Front) → Type 0
NotesAs (Picked p) before after =
    (rules : FrontRules) (late : Bool) (notes : Notes) → StandsBy rules late notes before
    → StandsBehind rules late (picked_notes notes p.pick) after.controller after.pool.items
NotesAs h before after = Quietly before after
