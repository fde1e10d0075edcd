use Rattle.std.proofs.Common.{◌∙◌, refl, sym, ap, subst, inl}
use Rattle.nvme_ctrl.specs.declared.picks.Step.{Step}
use Rattle.nvme_ctrl.specs.declared.picks.Step.TheVariants as made
use Rattle.nvme_arbiter.specs.declared.pick.Pick.{Pick}
use Rattle.nvme_ctrl.specs.Steps.{HasStepped, PicksNone}
use Rattle.nvme_capi.specs.Tables.{answer_of}
use Rattle.nvme_capi.proofs.ctrl.commands.nvmearb_ctrl_pick.Goals as goal

pub returns-in-Idle-clause-idle : goal.returns-in-Idle-clause-idle
returns-in-Idle-clause-idle c = λ rules late notes s _. subst (λ (it : Step). HasStepped rules late notes c.args.room it c.pick.new.self c.pick.new.slots) c.in-Idle.is (c.pick.ensures.stands rules late notes s)

pub returns-in-Busy-clause-busy : goal.returns-in-Busy-clause-busy
returns-in-Busy-clause-busy c = λ rules late notes s _. subst (λ (it : Step). HasStepped rules late notes c.args.room it c.pick.new.self c.pick.new.slots) c.in-Busy.is (c.pick.ensures.stands rules late notes s)

pub returns-in-NoRoom-clause-no_room : goal.returns-in-NoRoom-clause-no_room
returns-in-NoRoom-clause-no_room c = λ rules late notes s _. subst (λ (it : Step). HasStepped rules late notes c.args.room it c.pick.new.self c.pick.new.slots) c.in-NoRoom.is (c.pick.ensures.stands rules late notes s)

pub returns-in-Picked-clause-picked : goal.returns-in-Picked-clause-picked
returns-in-Picked-clause-picked c = λ rules late notes s _ _.
    subst (λ (pick : Pick). HasStepped rules late notes c.args.room (made.Picked pick) c.pick.new.self c.pick.new.slots) (sym c.fields_of_pick.ensures.same)
    (subst (λ (it : Step). HasStepped rules late notes c.args.room it c.pick.new.self c.pick.new.slots) c.in-Picked.is (c.pick.ensures.stands rules late notes s))

pub returns-in-Passed-clause-passed : goal.returns-in-Passed-clause-passed
returns-in-Passed-clause-passed c = λ rules late notes s _ _.
    subst (λ (pick : Pick). HasStepped rules late notes c.args.room (made.Passed pick) c.pick.new.self c.pick.new.slots) (sym c.fields_of_pick-in-Passed.ensures.same)
    (subst (λ (it : Step). HasStepped rules late notes c.args.room it c.pick.new.self c.pick.new.slots) c.in-Passed.is (c.pick.ensures.stands rules late notes s))

pub returns-in-Done-clause-carried_out : goal.returns-in-Done-clause-carried_out
returns-in-Done-clause-carried_out c = λ rules late notes s _ _. record {
  effect = c.in-Done.effect;
  entry = c.in-Done.entry;
  told_is = c.answer_of.ensures ∙ ap answer_of c.verdict.ensures;
  asked_is = c.asked_by.ensures;
  commanded = c.pick.ensures.commanded rules late notes s c.in-Done.effect c.in-Done.entry c.in-Done.is;
  anywhere = λ on. c.pick.ensures.anywhere rules late notes s on c.in-Done.effect c.in-Done.entry c.in-Done.is;
  done = subst (λ (it : Step). HasStepped rules late notes c.args.room it c.pick.new.self c.pick.new.slots) c.in-Done.is (c.pick.ensures.stands rules late notes s);
}

pub returns-in-Idle-clause-unchanged : goal.returns-in-Idle-clause-unchanged
returns-in-Idle-clause-unchanged c = λ _. (let h = c.pick.ensures.idle c.in-Idle.is in ((λ i. record c.args.state.now { ctrl = h.0 i }), (h.1, refl)))

pub returns-in-Busy-clause-unchanged : goal.returns-in-Busy-clause-unchanged
returns-in-Busy-clause-unchanged c = λ _. (let h = c.pick.ensures.busy c.in-Busy.is in ((λ i. record c.args.state.now { ctrl = h.0 i }), (h.1, refl)))

pub returns-in-NoRoom-clause-unchanged : goal.returns-in-NoRoom-clause-unchanged
returns-in-NoRoom-clause-unchanged c = λ _. (let h = c.pick.ensures.no_room c.in-NoRoom.is in ((λ i. record c.args.state.now { ctrl = h.0 i }), (h.1, refl)))

pub returns-in-Passed-clause-own : goal.returns-in-Passed-clause-own
returns-in-Passed-clause-own c = λ rules late notes s _ _. c.pick.ensures.passed rules late notes s c.in-Passed.pick c.in-Passed.is

pub returns-in-Done-clause-not_own : goal.returns-in-Done-clause-not_own
returns-in-Done-clause-not_own c = λ rules late notes s _ _. c.pick.ensures.carried_out rules late notes s c.in-Done.effect c.in-Done.entry c.in-Done.is

pub returns-in-Idle-clause-kept : goal.returns-in-Idle-clause-kept
returns-in-Idle-clause-kept c = λ k. record { front = λ m n. c.pick.ensures.front (k.front m (sym c.has_slots.ensures ∙ c.if-not-has_slots.false)) }

pub returns-in-Busy-clause-kept : goal.returns-in-Busy-clause-kept
returns-in-Busy-clause-kept c = λ k. record { front = λ m n. c.pick.ensures.front (k.front m (sym c.has_slots.ensures ∙ c.if-not-has_slots.false)) }

pub returns-in-NoRoom-clause-kept : goal.returns-in-NoRoom-clause-kept
returns-in-NoRoom-clause-kept c = λ k. record { front = λ m n. c.pick.ensures.front (k.front m (sym c.has_slots.ensures ∙ c.if-not-has_slots.false)) }

pub returns-in-Picked-clause-kept : goal.returns-in-Picked-clause-kept
returns-in-Picked-clause-kept c = λ k. record { front = λ m n. c.pick.ensures.front (k.front m (sym c.has_slots.ensures ∙ c.if-not-has_slots.false)) }

pub returns-in-Passed-clause-kept : goal.returns-in-Passed-clause-kept
returns-in-Passed-clause-kept c = λ k. record { front = λ m n. c.pick.ensures.front (k.front m (sym c.has_slots.ensures ∙ c.if-not-has_slots.false)) }

pub returns-in-Done-clause-kept : goal.returns-in-Done-clause-kept
returns-in-Done-clause-kept c = λ k. record { front = λ m n. c.pick.ensures.front (k.front m (sym c.has_slots.ensures ∙ c.if-not-has_slots.false)) }

pub returns-in-Idle-clause-taken : goal.returns-in-Idle-clause-taken
returns-in-Idle-clause-taken c = λ rules late notes s busy. (let is = c.in-Idle.is in let told = c.pick.ensures.taken rules late notes s busy in cc (is, told))

pub returns-in-NoRoom-clause-taken : goal.returns-in-NoRoom-clause-taken
returns-in-NoRoom-clause-taken c = λ rules late notes s busy. (let is = c.in-NoRoom.is in let told = c.pick.ensures.taken rules late notes s busy in cc (is, told))

pub returns-in-Picked-clause-taken : goal.returns-in-Picked-clause-taken
returns-in-Picked-clause-taken c = λ rules late notes s busy. (let is = c.in-Picked.is in let told = c.pick.ensures.taken rules late notes s busy in cc (is, told))

pub returns-in-Passed-clause-taken : goal.returns-in-Passed-clause-taken
returns-in-Passed-clause-taken c = λ rules late notes s busy. (let is = c.in-Passed.is in let told = c.pick.ensures.taken rules late notes s busy in cc (is, told))

pub returns-in-Done-clause-taken : goal.returns-in-Done-clause-taken
returns-in-Done-clause-taken c = λ rules late notes s busy. (let is = c.in-Done.is in let told = c.pick.ensures.taken rules late notes s busy in cc (is, told))

pub returns-in-Busy-clause-taken : goal.returns-in-Busy-clause-taken
returns-in-Busy-clause-taken c = λ rules late notes s busy. inl refl

pub returns-in-Picked-clause-io : goal.returns-in-Picked-clause-io
returns-in-Picked-clause-io c = λ _ _ admin. c.pick.ensures.io c.in-Picked.pick c.in-Picked.is (ap (λ (p : Pick). p.qid) (sym c.fields_of_pick.ensures.same) ∙ admin)

pub returns-in-Picked-clause-needs_room : goal.returns-in-Picked-clause-needs_room
returns-in-Picked-clause-needs_room c = λ none _. subst (λ (it : Step). PicksNone it) c.in-Picked.is (c.pick.ensures.needs_room none)

pub returns-in-Passed-clause-needs_room : goal.returns-in-Passed-clause-needs_room
returns-in-Passed-clause-needs_room c = λ none _. subst (λ (it : Step). PicksNone it) c.in-Passed.is (c.pick.ensures.needs_room none)

pub returns-in-Done-clause-needs_room : goal.returns-in-Done-clause-needs_room
returns-in-Done-clause-needs_room c = λ none _. subst (λ (it : Step). PicksNone it) c.in-Done.is (c.pick.ensures.needs_room none)
