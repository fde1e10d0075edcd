-- The command of the pick is carried out, and what it makes is logged.
use Rattle.std.proofs.Common.{◌≡◌, ℕ, max, List, [], length, sym, ap, ◌∙◌, subst}
use Rattle.nvme_arbiter.specs.Limits.{highest_count}
use Rattle.nvme_ctrl.specs.Steps.{HasStepped}
use Rattle.nvme_ctrl.specs.declared.picks.Step.{Step}
use Rattle.nvme_ctrl.specs.declared.picks.Step.TheVariants as step
use Rattle.nvme_slots.specs.declared.slot.Slot.{Slot}
use Rattle.nvme_engine.specs.declared.engine.Engine.{Engine}
use Rattle.nvme_engine.proofs.Additions.{on_regions}
use Rattle.nvme_engine.proofs.Calls.{written, slots_are, leaves}
use Rattle.nvme_ctrl.proofs.MayPick.{arbiter_there}
use Rattle.nvme_engine.proofs.NextPicks.{controller_of, stands_with}
use Rattle.nvme_engine.proofs.PickCalls.{carried, is_carried_out}
use Rattle.nvme_engine.proofs.engine.Engine.pick_admin.Goals as goal

pub pick-requires : goal.pick-requires
pick-requires c = record { arbiter = arbiter_there c.args.self.now.controller c.deref_mut.result.now (controller_of c.args.self.now c.requires.engine c.deref_mut.result.now c.deref_mut.ensures.value) }

pub returns-in_default : goal.returns-in_default
returns-in_default c = record {
  stands = λ rules late notes pick s may admin.
      let e : Engine = c.args.self.now in
      let size : length c.pick.new.slots ≡ length e.slots.items = c.pick.ensures.size ∙ ap (λ (xs : List Slot). length xs) c.deref_mut.ensures.value in
      let stands = stands_with rules late notes [] e s c.deref_mut.result.now c.deref_mut.ensures.value in
      absurd (is_carried_out rules late notes e (written e c.pick.new.self c.pick.new.slots) s pick may
      (leaves e c.pick.new.self c.pick.new.slots c.pick.ensures.depths c.pick.ensures.own size) admin c.pick.result
      (subst (λ (xs : List Slot). HasStepped s.their s.their_late notes highest_count c.pick.result c.pick.new.self xs) (sym (slots_are e c.pick.new.self c.pick.new.slots size))
      (c.pick.ensures.stands s.their s.their_late notes stands))
      c.pick.ensures.io (c.pick.ensures.passed s.their s.their_late notes stands) c.in_default.not-Done);
}

pub returns : goal.returns
returns c = record {
  stands = λ rules late notes pick s may admin.
      let e : Engine = c.args.self.now in
      let size : length c.pick.new.slots ≡ length e.slots.items = c.pick.ensures.size ∙ ap (λ (xs : List Slot). length xs) c.deref_mut.ensures.value in
      let stands = stands_with rules late notes [] e s c.deref_mut.result.now c.deref_mut.ensures.value in
      let did = c.in-Done.effect in
      let entry = c.in-Done.field-1 in
      carried rules late notes e (written e c.pick.new.self c.pick.new.slots) s pick may
      (leaves e c.pick.new.self c.pick.new.slots c.pick.ensures.depths c.pick.ensures.own size) admin c.args.log.now.items c.log_effect.new.log.items c.ending-ending.result
      (λ index oldest_entry oldest is. c.ending-ending.ensures rules late notes index oldest_entry s oldest is) did entry
      (subst (λ (xs : List Slot). HasStepped s.their s.their_late notes highest_count (step.Done did entry) c.pick.new.self xs) (sym (slots_are e c.pick.new.self c.pick.new.slots size))
      (subst (λ (z : Step). HasStepped s.their s.their_late notes highest_count z c.pick.new.self c.pick.new.slots) c.in-Done.is (c.pick.ensures.stands s.their s.their_late notes stands)))
      (c.pick.ensures.names s.their s.their_late notes stands (on_regions s.their s.alike.adds) did entry c.in-Done.is)
      (c.pick.ensures.commanded s.their s.their_late notes stands did entry c.in-Done.is) c.log_effect.ensures
      c.max-self.result (c.max-self.ensures ∙ ap (λ (n : ℕ). max e.queues n) c.bound_of.ensures);
}
