-- A slot between two lists of a controller, and what a controller keeps while a command is carried out (profile).
use Rattle.std.specs.Prelude.{◌≡◌, ◌≢◌, ℕ, ◌<◌, ◌==◌, false, if◌then◌else◌, List, [], ◌∷◌, ◌++◌, length, Some}
use Rattle.std.specs.List.{All}
use Rattle.nvme_entry.specs.Status.{StatusCode}
use Rattle.nvme_log.specs.Rules.{FrontRules}
use Rattle.nvme_ctrl_log.specs.StatusFlags.{own_flags}
use Rattle.nvme_ctrl_log.specs.Notes.{Notes}
use Rattle.nvme_slots.specs.declared.slot.Slot.{Slot}
use Rattle.nvme_ctrl.specs.declared.state.Controller.{Controller}
use Rattle.nvme_ctrl_content.specs.Content.{Ready, Content}
use Rattle.nvme_slots.specs.Pool.{slot_at, IsNew}
use Rattle.nvme_ctrl.specs.kept.Kept.{ReadyItem, DeleteItem, Items, tags_of, ready_tags, ready_state, HasNumbers, HasItems, HoldsDoorbells, HoldsTags}

-- a slot is in no list, and the device hadn't its command
pub record IsLoose (slots : List Slot) (g : Items) (x : ℕ) : Type 0 where
  pub inside : x < length slots
  pub windows : (r : ℕ) → IsNew x (tags_of (g.windows r))
  pub outs : IsNew x (tags_of g.outs)
  pub readies : (y : ℕ) → IsNew x (ready_tags (g.readies y))
  pub deletes : (r : ℕ) (it : DeleteItem) → g.deletes r ≡ Some it → it.tag ≢ x
  pub free : IsNew x g.free
  pub not_out : (slot_at slots x).state ≢ 2
  pub not_answered : (slot_at slots x).state ≢ 3

-- no slot is ready in two completion regions
abbrev pub AreReadiesApart : Items → Type 0
AreReadiesApart g = (x y : ℕ) → x ≢ y → All (λ (tag : ℕ). IsNew tag (ready_tags (g.readies y))) (ready_tags (g.readies x))

-- a controller keeps some content and items, at notes that it needn't stand at yet
pub record Keeps (rules : FrontRules) (notes : Notes) (c : Controller) (slots : List Slot) (k : Content) (g : Items) : Type 0 where
  pub numbers : HasNumbers c k
  pub has : HasItems c slots k g
  pub doorbells : HoldsDoorbells rules notes c k
  pub tags : HoldsTags notes c slots k g
  pub apart : AreReadiesApart g

-- a state and an answer make the command of a slot ready so
pub record MakesReady (slots : List Slot) (tag state : ℕ) (status : StatusCode) (dw0 : ℕ) (t : Ready) : Type 0 where
  pub state_is : state ≡ ready_state false t.with_queue
  pub sqid : (slot_at slots tag).sqid ≡ t.sqid
  pub cid : (slot_at slots tag).entry.cid ≡ t.cid
  pub status_is : status ≡ t.status
  pub dw0_is : dw0 ≡ t.dw0

-- a ready item more in a completion region
abbrev pub ended : ℕ → Ready → ReadyItem
ended tag t = record { tag = tag; ready = t; was_out = false; flags = own_flags t.status }

abbrev pub with_item : Items → ℕ → ReadyItem → Items
with_item g c x = record g { readies = λ y. if y == c then g.readies c ++ x ∷ [] else g.readies y }
