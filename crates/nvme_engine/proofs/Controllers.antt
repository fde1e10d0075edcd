-- The controller of an engine, and its slots after a call that wrote them.
use Rattle.std.proofs.Common.{◌≡◌, List, length, sym, ◌∙◌}
use Rattle.std.specs.Prelude.{Vec}
use Rattle.std.specs.Vec.{with_items}
use Rattle.std.proofs.lemmas.List.{with_items_is}
use Rattle.nvme_ctrl.specs.Standing.{IsController}
use Rattle.nvme_engine.specs.Standing.{IsEngine}
use Rattle.nvme_engine.specs.declared.engine.Engine.{Engine}

-- the controller stands at some log
pub is_controller : (e : Engine) → IsEngine e → IsController e.controller e.slots.items
is_controller e i = record { rules = i.stands.their; late = i.stands.their_late; notes = i.notes; stands = i.stands.stands }

-- a vector has as many items as were written, where they are as many as there were
pub items_are : {X Z : Type 0} (v : Vec X Z) (ws : List X) → length ws ≡ length v.items → (with_items v ws).items ≡ ws
items_are v ws size = with_items_is v ws (size ∙ sym v.ok.0)
