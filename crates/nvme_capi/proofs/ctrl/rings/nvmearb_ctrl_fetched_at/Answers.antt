use Rattle.std.proofs.Common.{◌∙◌, sym, arith}
use Rattle.nvme_capi.specs.Controllers.{is_ctrl, has_slots}
use Rattle.nvme_capi.proofs.Refusals.{not_between, no_state_refused, no_slots_refused}
use Rattle.nvme_capi.proofs.ctrl.rings.nvmearb_ctrl_fetched_at.Goals as goal

pub returns-clause-bad_state : goal.returns-clause-bad_state
returns-clause-bad_state c =
    no_state_refused c.fetch_at.result (is_ctrl c.args.state.now) (not_between c.fetch_at.result 3 c.fetch_at.ensures.answer (omega arith) (omega arith)) (sym c.is_ctrl.ensures ∙ c.if-not-is_ctrl.false)

pub returns-clause-bad_argument : goal.returns-clause-bad_argument
returns-clause-bad_argument c =
    no_slots_refused c.fetch_at.result (is_ctrl c.args.state.now) (has_slots c.args.state.now c.args.slots.now) (not_between c.fetch_at.result 2 c.fetch_at.ensures.answer (omega arith) (omega arith))
    (sym c.has_slots.ensures ∙ c.if-not-has_slots.false)

pub returns-clause-kept : goal.returns-clause-kept
returns-clause-kept c = λ k. record { front = λ m n. c.fetch_at.ensures.front (k.front m (sym c.has_slots.ensures ∙ c.if-not-has_slots.false)) }
