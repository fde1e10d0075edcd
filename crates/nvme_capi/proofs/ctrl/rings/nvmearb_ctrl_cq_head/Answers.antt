use Rattle.std.proofs.Common.{◌≡◌, ◌∙◌, true, false, None, Some, not, sym, ap}
use Rattle.nvme_log.specs.Queues.{open_cq}
use Rattle.nvme_ctrl_log.specs.Notes.{logged}
use Rattle.nvme_capi.proofs.Queues.{none_there, some_there}
use Rattle.nvme_capi.proofs.ctrl.rings.nvmearb_ctrl_cq_head.Goals as goal

pub returns-then-is_none-clause-nothing : goal.returns-then-is_none-clause-nothing
returns-then-is_none-clause-nothing c = λ rules late notes slots s _. none_there (open_cq (logged notes) c.args.cqid) (sym (c.cq_region.ensures.told rules late notes slots s) ∙ (c.is_none.ensures ∙ ap not c.if-is_none.true))

pub returns-then-cq_head-clause-valid : goal.returns-then-cq_head-clause-valid
returns-then-cq_head-clause-valid c = λ rules late notes slots s _. (c.cq_head.ensures.answer rules late notes slots s).0 c.if-cq_head.true

pub returns-then-cq_head-clause-stands : goal.returns-then-cq_head-clause-stands
returns-then-cq_head-clause-stands c = λ rules late notes slots s _. c.cq_head.ensures.stands rules late notes slots s c.if-cq_head.true

pub returns-then-cq_head-clause-kept : goal.returns-then-cq_head-clause-kept
returns-then-cq_head-clause-kept c = λ slots k. record { front = λ m n. c.cq_head.ensures.front slots (k.front m n) }

pub returns-else-cq_head-clause-is_open : goal.returns-else-cq_head-clause-is_open
returns-else-cq_head-clause-is_open c = λ rules late notes slots s _ none.
    let it = some_there (open_cq (logged notes) c.args.cqid) (sym (c.cq_region.ensures.told rules late notes slots s) ∙ (c.is_none.ensures ∙ ap not c.if-is_none.false)) in
    let lost : None ≡ Some it.0 = sym none ∙ it.1 in
    cc lost

pub returns-else-cq_head-clause-invalid : goal.returns-else-cq_head-clause-invalid
returns-else-cq_head-clause-invalid c = λ rules late notes slots s _ valid.
    let lost : true ≡ false = sym ((c.cq_head.ensures.answer rules late notes slots s).1 valid) ∙ c.if-cq_head.false in
    cc lost

pub returns-else-cq_head-clause-kept : goal.returns-else-cq_head-clause-kept
returns-else-cq_head-clause-kept c = λ slots k. record { front = λ m n. c.cq_head.ensures.front slots (k.front m n) }
