use Rattle.std.proofs.Common.{◌≡◌, ◌∙◌, true, false, None, Some, not, sym, ap}
use Rattle.nvme_log.specs.Queues.{open_sq}
use Rattle.nvme_ctrl_log.specs.Notes.{logged}
use Rattle.nvme_capi.proofs.Queues.{none_there, some_there}
use Rattle.nvme_capi.proofs.ctrl.rings.nvmearb_ctrl_sq_tail.Goals as goal

pub returns-then-is_none-clause-nothing : goal.returns-then-is_none-clause-nothing
returns-then-is_none-clause-nothing c = λ rules late notes slots s _. none_there (open_sq (logged notes) c.args.qid) (sym (c.sq_region.ensures.told rules late notes slots s) ∙ (c.is_none.ensures ∙ ap not c.if-is_none.true))

pub returns-then-sq_tail-clause-valid : goal.returns-then-sq_tail-clause-valid
returns-then-sq_tail-clause-valid c = λ rules late notes slots s _. (c.sq_tail.ensures.answer rules late notes slots s).0 c.if-sq_tail.true

pub returns-then-sq_tail-clause-stands : goal.returns-then-sq_tail-clause-stands
returns-then-sq_tail-clause-stands c = λ rules late notes slots s _. c.sq_tail.ensures.stands rules late notes slots s c.if-sq_tail.true

pub returns-then-sq_tail-clause-kept : goal.returns-then-sq_tail-clause-kept
returns-then-sq_tail-clause-kept c = λ slots k. record { front = λ m n. c.sq_tail.ensures.front slots (k.front m n) }

pub returns-else-sq_tail-clause-is_open : goal.returns-else-sq_tail-clause-is_open
returns-else-sq_tail-clause-is_open c = λ rules late notes slots s _ none.
    let it = some_there (open_sq (logged notes) c.args.qid) (sym (c.sq_region.ensures.told rules late notes slots s) ∙ (c.is_none.ensures ∙ ap not c.if-is_none.false)) in
    let lost : None ≡ Some it.0 = sym none ∙ it.1 in
    cc lost

pub returns-else-sq_tail-clause-invalid : goal.returns-else-sq_tail-clause-invalid
returns-else-sq_tail-clause-invalid c = λ rules late notes slots s _ valid.
    let lost : true ≡ false = sym ((c.sq_tail.ensures.answer rules late notes slots s).1 valid) ∙ c.if-sq_tail.false in
    cc lost

pub returns-else-sq_tail-clause-kept : goal.returns-else-sq_tail-clause-kept
returns-else-sq_tail-clause-kept c = λ slots k. record { front = λ m n. c.sq_tail.ensures.front slots (k.front m n) }
