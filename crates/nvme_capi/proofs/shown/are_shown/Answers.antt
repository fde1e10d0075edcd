use Rattle.std.proofs.Common.{◌∙◌, sym}
use Rattle.nvme_arbiter.proofs.Observations.{tested}
use Rattle.nvme_capi.specs.States.{seen_in}
use Rattle.nvme_capi.proofs.shown.are_shown.Goals as goal

pub returns-then-queues-le-QUEUE_LIMIT : goal.returns-then-queues-le-QUEUE_LIMIT
returns-then-queues-le-QUEUE_LIMIT c =
    let test = tested (seen_in c.args.queues.now) in
    (λ are. record { few = c.if-queues-le-QUEUE_LIMIT.true; observed = test.0 (sym c.ascend.ensures ∙ are) }, λ shown. c.ascend.ensures ∙ test.1 shown.observed)
