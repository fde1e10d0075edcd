use Rattle.std.proofs.Common.{◌∙◌, sym, arith}
use Rattle.nvme_capi.specs.Controllers.{is_ctrl, has_slots}
use Rattle.nvme_capi.proofs.Refusals.{not_told, not_ok, no_state_refused, no_slots_refused}
use Rattle.nvme_capi.proofs.ctrl.rings.nvmearb_ctrl_fetched.Goals as goal

pub returns-clause-stands : goal.returns-clause-stands
returns-clause-stands c = λ rules late notes s done entry is. (c.fetch_one.ensures.fetched done).stands rules late notes s entry is

pub returns-clause-nothing : goal.returns-clause-nothing
returns-clause-nothing c = λ rules late notes s nothing. c.fetch_one.ensures.none (not_ok c.fetch_one.result nothing) rules late notes s

pub returns-clause-bad_state : goal.returns-clause-bad_state
returns-clause-bad_state c = no_state_refused c.fetch_one.result (is_ctrl c.args.state.now) (not_told c.fetch_one.result 3 c.fetch_one.ensures.answer (omega arith)) (sym c.is_ctrl.ensures ∙ c.if-not-is_ctrl.false)

pub returns-clause-bad_argument : goal.returns-clause-bad_argument
returns-clause-bad_argument c =
    no_slots_refused c.fetch_one.result (is_ctrl c.args.state.now) (has_slots c.args.state.now c.args.slots.now) (not_told c.fetch_one.result 2 c.fetch_one.ensures.answer (omega arith)) (sym c.has_slots.ensures ∙ c.if-not-has_slots.false)

pub returns-clause-kept : goal.returns-clause-kept
returns-clause-kept c = λ k. record { front = λ m n. c.fetch_one.ensures.front (k.front m (sym c.has_slots.ensures ∙ c.if-not-has_slots.false)) }
