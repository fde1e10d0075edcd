use Rattle.nvme_load.specs.declared.replay.Request.{Request}
use Rattle.nvme_load.specs.Longest.{longest_by}
use Rattle.nvme_waits.proofs.Greatest.{greatest_read}
use Rattle.nvme_waits.proofs.bounds.longest_listed.Goals as goal

pub loop-request-preserved : goal.loop-request-preserved
loop-request-preserved c =
    cc (greatest_read (λ (r : Request). longest_by c.args.services.now r.operation r.blocks) c.args.requests.now c.loop-request.request-index _
    c.loop-request.longest c.longest.result c.loop-request-test.true c.loop-request.invariant c.longest.ensures)
