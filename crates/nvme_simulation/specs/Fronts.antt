-- A controller with its slots. (profile)
use Rattle.std.specs.Prelude.{◌≡◌, ℕ, Bool, false, List}
use Rattle.nvme_arbiter.specs.Settings.{ArbitrationFields}
use Rattle.nvme_arbiter.specs.declared.settings.Mechanism.{Mechanism}
use Rattle.nvme_log.specs.Rules.{FrontRules}
use Rattle.nvme_ctrl_log.specs.Calls.{equal_depths}
use Rattle.nvme_ctrl_log.specs.Notes.{Notes}
use Rattle.nvme_ctrl.specs.Calls.{depths_of}
use Rattle.nvme_ctrl.specs.Standing.{IsController, Stands}
use Rattle.nvme_slots.specs.declared.slot.Slot.{Slot}
use Rattle.nvme_ctrl.specs.declared.state.Controller.{Controller}
use Rattle.nvme_ctrl.specs.declared.posts.Post.{Post}
use Rattle.nvme_simulation.specs.declared.front.Front.{Front}
use Rattle.nvme_simulation.specs.declared.front.Taken.{Taken}

-- a completion is that of a command, of its queue
pub record IsCompletionOf (taken : Taken) (post : Post) : Type 0 where
  pub number : post.cookie ≡ taken.number
  pub tag : post.tag ≡ taken.tag
  pub queue : post.cqe.sqid ≡ taken.qid

abbrev pub IsFront : Front → Type 0
IsFront f = IsController f.controller f.pool.items

-- the controller stands at these notes
abbrev pub StandsBy : FrontRules → Bool → Notes → Front → Type 0
StandsBy rules late notes f = Stands rules late notes f.controller f.pool.items

-- a controller stands at some notes, of which it keeps an account, and arbitrates by this mechanism with these first settings
pub record Arbitrates (mechanism : Mechanism) (settings : ArbitrationFields) (c : Controller) (slots : List Slot) : Type 0 where
  pub rules : FrontRules
  pub late : Bool
  pub notes : Notes
  pub stands : Stands rules late notes c slots
  pub in_time : late ≡ false
  pub mechanism_is : rules.mechanism ≡ mechanism
  pub settings_are : rules.start.settings ≡ settings

abbrev pub IsFrontOf : Mechanism → ArbitrationFields → Front → Type 0
IsFrontOf mechanism settings f = Arbitrates mechanism settings f.controller f.pool.items

-- the most commands of each queue that hold a slot of the controller: as many as wait for arbitration and as the device may have
abbrev pub queue_depth : ℕ
queue_depth = 4351

abbrev pub HasDepths : Front → Type 0
HasDepths f = depths_of f.controller ≡ equal_depths queue_depth

-- it stands, each queue has its depth, and it arbitrates as it did
pub record StaysFront (before after : Front) : Type 0 where
  pub is : IsFront after
  pub depths : depths_of after.controller ≡ depths_of before.controller
  pub arbitrates : (mechanism : Mechanism) (settings : ArbitrationFields) → IsFrontOf mechanism settings before → IsFrontOf mechanism settings after
