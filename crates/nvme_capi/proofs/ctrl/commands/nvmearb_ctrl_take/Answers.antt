use Rattle.std.proofs.Common.{◌∙◌, sym, arith}
use Rattle.nvme_capi.specs.Controllers.{is_ctrl, has_slots}
use Rattle.nvme_capi.proofs.Refusals.{not_told, not_ok, no_state_refused, no_slots_refused}
use Rattle.nvme_capi.proofs.ctrl.commands.nvmearb_ctrl_take.Goals as goal

pub returns-clause-stands : goal.returns-clause-stands
returns-clause-stands c = λ rules late notes s done. (c.take_one.ensures.taken done).stands rules late notes s

pub returns-clause-cookie : goal.returns-clause-cookie
returns-clause-cookie c = λ done. (c.take_one.ensures.taken done).cookie

pub returns-clause-entry : goal.returns-clause-entry
returns-clause-entry c = λ done. (c.take_one.ensures.taken done).entry

pub returns-clause-generation : goal.returns-clause-generation
returns-clause-generation c = λ rules late notes s done. (c.take_one.ensures.taken done).generation rules late notes s

pub returns-clause-nothing : goal.returns-clause-nothing
returns-clause-nothing c = λ rules late notes s nothing. c.take_one.ensures.none (not_ok c.take_one.result nothing) rules late notes s

pub returns-clause-bad_state : goal.returns-clause-bad_state
returns-clause-bad_state c = no_state_refused c.take_one.result (is_ctrl c.args.state.now) (not_told c.take_one.result 3 c.take_one.ensures.answer (omega arith)) (sym c.is_ctrl.ensures ∙ c.if-not-is_ctrl.false)

pub returns-clause-bad_argument : goal.returns-clause-bad_argument
returns-clause-bad_argument c =
    no_slots_refused c.take_one.result (is_ctrl c.args.state.now) (has_slots c.args.state.now c.args.slots.now) (not_told c.take_one.result 2 c.take_one.ensures.answer (omega arith)) (sym c.has_slots.ensures ∙ c.if-not-has_slots.false)

pub returns-clause-kept : goal.returns-clause-kept
returns-clause-kept c = λ k. record { front = λ m n. c.take_one.ensures.front (k.front m (sym c.has_slots.ensures ∙ c.if-not-has_slots.false)) }
