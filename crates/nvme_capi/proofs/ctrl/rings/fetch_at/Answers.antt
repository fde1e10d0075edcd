use Rattle.nvme_capi.proofs.Refusals.{not_ok}
use Rattle.nvme_capi.proofs.ctrl.rings.fetch_at.Goals as goal

pub returns-then-next-ne-OK-clause-none : goal.returns-then-next-ne-OK-clause-none
returns-then-next-ne-OK-clause-none c = λ none. c.next_is-next.ensures.none c.args.slots.now none

pub returns-clause-this : goal.returns-clause-this
returns-clause-this c = λ _. c.next_is-next.ensures.this c.args.slots.now c.if-next-ne-OK.false

pub returns-clause-none : goal.returns-clause-none
returns-clause-none c = λ nothing. c.fetch_one.ensures.none (not_ok c.fetch_one.result nothing)
