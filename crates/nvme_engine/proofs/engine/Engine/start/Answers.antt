use Rattle.std.proofs.Common.{◌≡◌, ◌≤◌, ℕ, List, [], length, false, refl, sym, ap, ◌∙◌, subst}
use Rattle.std.specs.Vec.{with_items}
use Rattle.nvme_ctrl_log.specs.Making.{first_rules}
use Rattle.nvme_ctrl.specs.Standing.{Stands}
use Rattle.nvme_slots.specs.declared.slot.Slot.{Slot}
use Rattle.nvme_engine.specs.Standing.{pool_size}
use Rattle.nvme_engine.specs.declared.engine.Engine.{Engine}
use Rattle.nvme_engine.proofs.Controllers.{items_are}
use Rattle.nvme_engine.proofs.Fresh.{begins}
use Rattle.nvme_engine.proofs.engine.Engine.start.Goals as goal

pub returns : goal.returns
returns c = record {
  stands = λ sizes.
      (let self : Engine = c.args.self.now in
      let pool : List Slot = c.new.new.slots in
      let size : length pool ≡ length self.slots.items = c.new.ensures.size ∙ ap (λ (xs : List Slot). length xs) c.deref_mut.ensures.value in
      let are : (with_items self.slots pool).items ≡ pool = items_are self.slots pool size in
      begins c.args.mechanism c.args.settings c.args.limits c.args.sq c.args.cq sizes c.requires.fit
      (record { controller = c.in-Ok.controller; slots = with_items self.slots pool; queues = 1 }) refl
      (subst (λ (xs : List Slot). Stands (first_rules c.args.mechanism c.args.settings c.args.limits c.args.sq c.args.cq sizes) false [] c.in-Ok.controller xs) (sym are) (c.in-Ok.ensures.stands sizes))
      (subst (λ (n : ℕ). pool_size ≤ n) (sym (ap (λ (xs : List Slot). length xs) are ∙ size)) c.requires.room)
      c.in-Ok.ensures.depths c.in-Ok.ensures.own);
}
