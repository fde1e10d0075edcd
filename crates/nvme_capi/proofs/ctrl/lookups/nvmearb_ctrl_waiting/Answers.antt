use Rattle.std.proofs.Common.{◌≡◌, ◌∙◌, Option, length, not, sym, ap, subst}
use Rattle.std.specs.Prelude.{IsSomeAnd}
use Rattle.nvme_log.specs.Queues.{Queue, open_sq}
use Rattle.nvme_log.specs.Places.{waiting}
use Rattle.nvme_ctrl_log.specs.Notes.{logged}
use Rattle.nvme_capi.proofs.Queues.{none_there, some_there}
use Rattle.nvme_capi.proofs.ctrl.lookups.nvmearb_ctrl_waiting.Goals as goal

pub returns-then-is_none-clause-nothing : goal.returns-then-is_none-clause-nothing
returns-then-is_none-clause-nothing c = λ rules late notes slots s _. none_there (open_sq (logged notes) c.args.qid) (sym (c.sq_region.ensures.told rules late notes slots s) ∙ (c.is_none.ensures ∙ ap not c.if-is_none.true))

pub returns-clause-waits : goal.returns-clause-waits
returns-clause-waits c = λ rules late notes slots s _.
    let it = some_there (open_sq (logged notes) c.args.qid) (sym (c.sq_region.ensures.told rules late notes slots s) ∙ (c.is_none.ensures ∙ ap not c.if-is_none.false)) in
    subst (λ (o : Option Queue). IsSomeAnd o (λ queue. c.waiting.result ≡ length (waiting (logged notes) queue.region))) (sym it.1) (c.waiting.ensures.waits rules late notes slots s it.0 it.1)
