use Rattle.std.proofs.Common.{rules}
use Rattle.nvme_numbers.specs.Tables.{channel_text}
use Rattle.nvme_numbers.proofs.Places.{placed_fail, placed_then}
use Rattle.nvme_numbers.proofs.answer.table.put_channels.Goals as goal

pub returns-in_err-put_channel : goal.returns-in_err-put_channel
returns-in_err-put_channel g c =
    placed_fail (channel_text c.args.answer.now) c.args.channels.now c.loop-number.number _ _ _ _
    c.from_residual.result c.from_residual.ensures.0 (search rules) c.loop-number.invariant c.in_err-put_channel.ensures

pub loop-number-preserved : goal.loop-number-preserved
loop-number-preserved g c =
    placed_then (channel_text c.args.answer.now) c.args.channels.now c.loop-number.number _ _ _ _
    (search rules) c.loop-number.invariant c.in_ok-put_channel.ensures
