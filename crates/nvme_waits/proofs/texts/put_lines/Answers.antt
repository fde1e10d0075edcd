use Rattle.std.proofs.Common.{rules}
use Rattle.nvme_numbers.proofs.Places.{placed_fail, placed_then}
use Rattle.nvme_waits.specs.Texts.{queue_line}
use Rattle.nvme_waits.proofs.texts.put_lines.Goals as goal

pub returns-in_err-put_line : goal.returns-in_err-put_line
returns-in_err-put_line g c =
    placed_fail (queue_line c.args.bounds.now) c.args.queues.now c.loop-place.place _ _ _ _
    c.from_residual.result c.from_residual.ensures.0 (search rules) c.loop-place.invariant c.in_err-put_line.ensures

pub loop-place-preserved : goal.loop-place-preserved
loop-place-preserved g c =
    placed_then (queue_line c.args.bounds.now) c.args.queues.now c.loop-place.place _ _ _ _
    (search rules) c.loop-place.invariant c.in_ok-put_line.ensures
