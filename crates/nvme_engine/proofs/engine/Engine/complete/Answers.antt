-- The command of a tag that is out is answered.
use Rattle.std.proofs.Common.{◌≡◌, List, length, sym, ap, ◌∙◌, subst}
use Rattle.nvme_ctrl.specs.Standing.{Stands}
use Rattle.nvme_slots.specs.declared.slot.Slot.{Slot}
use Rattle.nvme_engine.specs.declared.engine.Engine.{Engine}
use Rattle.nvme_engine.proofs.Calls.{written, leaves, stands_written}
use Rattle.nvme_engine.proofs.Answering.{has_answered}
use Rattle.nvme_engine.proofs.engine.Engine.complete.Goals as goal

pub returns : goal.returns
returns c = record {
  stands = λ rules late notes p entry s held out at is.
      let e : Engine = c.args.self.now in
      let old = subst (λ (xs : List Slot). Stands s.their s.their_late notes e.controller xs) (sym c.deref_mut.ensures.value) s.stands in
      let size : length c.complete.new.slots ≡ length e.slots.items = c.complete.ensures.size ∙ ap (λ (xs : List Slot). length xs) c.deref_mut.ensures.value in
      let t = c.complete.ensures.stands s.their s.their_late notes old (c.complete.ensures.answer s.their s.their_late notes old ∙ out) in
      has_answered rules late notes e s c.args.tag p held entry at c.args.status is (written e c.complete.new.self c.complete.new.slots)
      (leaves e c.complete.new.self c.complete.new.slots c.complete.ensures.depths c.complete.ensures.own size) t.region t.index _ t.held
      (stands_written s.their s.their_late _ e c.complete.new.self c.complete.new.slots size t.stands);
}
