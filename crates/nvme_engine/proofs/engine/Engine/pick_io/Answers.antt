use Rattle.std.proofs.Common.{◌≡◌, List, [], length, sym, ap, ◌∙◌, subst}
use Rattle.nvme_arbiter.specs.Limits.{highest_count}
use Rattle.nvme_ctrl.specs.Steps.{HasStepped}
use Rattle.nvme_slots.specs.declared.slot.Slot.{Slot}
use Rattle.nvme_engine.specs.declared.engine.Engine.{Engine}
use Rattle.nvme_engine.proofs.Calls.{written, slots_are, leaves}
use Rattle.nvme_ctrl.proofs.MayPick.{arbiter_there}
use Rattle.nvme_engine.proofs.NextPicks.{controller_of, stands_with}
use Rattle.nvme_engine.proofs.PickCalls.{has_picked}
use Rattle.nvme_engine.proofs.engine.Engine.pick_io.Goals as goal

pub pick-requires : goal.pick-requires
pick-requires c = record { arbiter = arbiter_there c.args.self.now.controller c.deref_mut.result.now (controller_of c.args.self.now c.requires.engine c.deref_mut.result.now c.deref_mut.ensures.value) }

pub returns : goal.returns
returns c = record {
  stands = λ rules late notes pick s may io.
      let e : Engine = c.args.self.now in
      let size : length c.pick.new.slots ≡ length e.slots.items = c.pick.ensures.size ∙ ap (λ (xs : List Slot). length xs) c.deref_mut.ensures.value in
      let stands = stands_with rules late notes [] e s c.deref_mut.result.now c.deref_mut.ensures.value in
      has_picked rules late notes e (written e c.pick.new.self c.pick.new.slots) s pick may
      (leaves e c.pick.new.self c.pick.new.slots c.pick.ensures.depths c.pick.ensures.own size) io c.pick.result
      (subst (λ (xs : List Slot). HasStepped s.their s.their_late notes highest_count c.pick.result c.pick.new.self xs) (sym (slots_are e c.pick.new.self c.pick.new.slots size))
      (c.pick.ensures.stands s.their s.their_late notes stands));
}
