use Rattle.std.proofs.Common.{◌∙◌, sym, refl}
use Rattle.nvme_capi.proofs.ctrl.commands.nvmearb_ctrl_finish.Goals as goal

pub returns-in-Some-clause-stands : goal.returns-in-Some-clause-stands
returns-in-Some-clause-stands c = λ rules late notes s _. c.in-Some.ensures.stands rules late notes s

pub returns-in-None-clause-nothing : goal.returns-in-None-clause-nothing
returns-in-None-clause-nothing c = λ rules late notes s _. c.finish.ensures.told rules late notes s c.in-None.is

pub returns-in-None-clause-unchanged : goal.returns-in-None-clause-unchanged
returns-in-None-clause-unchanged c = λ _. (let h = c.finish.ensures.none c.in-None.is in ((λ i. record c.args.state.now { ctrl = h.0 i }), (h.1, refl)))

pub returns-in-Some-clause-kept : goal.returns-in-Some-clause-kept
returns-in-Some-clause-kept c = λ k. record { front = λ m n. c.finish.ensures.front (k.front m (sym c.has_slots.ensures ∙ c.if-not-has_slots.false)) }

pub returns-in-None-clause-kept : goal.returns-in-None-clause-kept
returns-in-None-clause-kept c = λ k. record { front = λ m n. c.finish.ensures.front (k.front m (sym c.has_slots.ensures ∙ c.if-not-has_slots.false)) }

pub returns-in-Some-clause-first : goal.returns-in-Some-clause-first
returns-in-Some-clause-first c = λ rules late notes s _. c.in-Some.ensures.first rules late notes s
