-- What a call of an engine leaves.
use Rattle.std.proofs.Common.{◌≡◌, ℕ, ◌≤◌, List, length, Global, refl, sym, ap, ◌∙◌, subst}
use Rattle.std.specs.Prelude.{Vec}
use Rattle.std.specs.Vec.{with_items}
use Rattle.std.proofs.Math.Nat.{ℕ_set}
use Rattle.nvme_ctrl.specs.Calls.{depths_of}
use Rattle.nvme_ctrl.specs.Own.{own_of}
use Rattle.nvme_ctrl_log.specs.Notes.{Notes}
use Rattle.nvme_ctrl.specs.Standing.{Stands}
use Rattle.nvme_slots.specs.declared.slot.Slot.{Slot}
use Rattle.nvme_ctrl.specs.declared.state.Controller.{Controller}
use Rattle.nvme_log.specs.Rules.{FrontRules, Past}
use Rattle.std.specs.Prelude.{Bool}
use Rattle.nvme_engine.specs.Standing.{OpensBelow, pool_size}
use Rattle.nvme_engine.specs.declared.engine.Engine.{Engine}
use Rattle.nvme_engine.proofs.Controllers.{items_are}

-- the depths, the commands that are passed on, the number of slots, and the bound on open queues
pub record Leaves (old new : Engine) : Type 0 where
  pub depths : depths_of new.controller ≡ depths_of old.controller
  pub own : own_of new.controller ≡ own_of old.controller
  pub size : length new.slots.items ≡ length old.slots.items
  pub bound : new.queues ≡ old.queues

-- so the pool stays large enough
pub same_pool : (old new : Engine) → Leaves old new → pool_size ≤ length old.slots.items → pool_size ≤ length new.slots.items
same_pool old new left pool = subst (λ (n : ℕ). pool_size ≤ n) (sym left.size) pool

-- and the open queues stay below it
pub same_few : (old new : Engine) (past : Past) → Leaves old new → OpensBelow past old.queues → OpensBelow past new.queues
same_few old new past left few = subst (λ (n : ℕ). OpensBelow past n) (sym left.bound) few

-- an engine after a call of its controller, which wrote to its slots
abbrev pub written : Engine → Controller → List Slot → Engine
written e c slots = record e { controller = c; slots = with_items e.slots slots }

-- it has these slots, where there are as many
pub slots_are : (e : Engine) (c : Controller) (slots : List Slot) → length slots ≡ length e.slots.items → (written e c slots).slots.items ≡ slots
slots_are e c slots size = items_are e.slots slots size

pub leaves : (e : Engine) (c : Controller) (slots : List Slot) → depths_of c ≡ depths_of e.controller → own_of c ≡ own_of e.controller → length slots ≡ length e.slots.items
    → Leaves e (written e c slots)
leaves e c slots depths own size = record { depths = depths; own = own; size = ap (λ (xs : List Slot). length xs) (slots_are e c slots size) ∙ size; bound = refl }

pub stands_written : (rules : FrontRules) (late : Bool) (notes : Notes) (e : Engine) (c : Controller) (slots : List Slot) → length slots ≡ length e.slots.items
    → Stands rules late notes c slots → Stands rules late notes c (written e c slots).slots.items
stands_written rules late notes e c slots size s = subst (λ (xs : List Slot). Stands rules late notes c xs) (sym (slots_are e c slots size)) s

-- ---- a call that changes nothing
-- a vector with the same items is the same
same_items : {X Z : Type 0} (v : Vec X Z) (xs : List X) → v.items ≡ xs → (b : v.len ≡ length xs) → v ≡ record v { items = xs; ok = (b, v.ok.1) }
same_items v xs e = subst (λ (ys : List _). (b : v.len ≡ length ys) → v ≡ record v { items = ys; ok = (b, v.ok.1) }) e
    (λ b. ap (λ (at : v.len ≡ length v.items). record v { ok = (at, v.ok.1) }) (ℕ_set v.len (length v.items) v.ok.0 b))

vec_back : {X Z : Type 0} (v : Vec X Z) → with_items v v.items ≡ v
vec_back v = sym (same_items v (with_items v v.items).items (sym (items_are v v.items refl)) (with_items v v.items).ok.0)

pub written_back : (e : Engine) (c : Controller) (slots : List Slot) → c ≡ e.controller → slots ≡ e.slots.items → written e c slots ≡ e
written_back e c slots same_c same_slots =
    (λ j. written e (same_c j) (same_slots j)) ∙ ap (λ (v : Vec Slot Global). record e { slots = v }) (vec_back e.slots)
