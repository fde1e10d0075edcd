use Rattle.std.specs.Prelude.{codes}
use Rattle.nvme_output.proofs.Writing.{fails_first, writes_then}
use Rattle.nvme_numbers.specs.Objects.{channel_object, listed}
use Rattle.nvme_numbers.proofs.answer.object.put_channels.Goals as goal

pub returns-in_err-put : goal.returns-in_err-put
returns-in_err-put g c = fails_first _ _ c.from_residual.result (codes ",\"channels\":[") (listed (λ place channel. channel_object c.args.answer.now channel) c.args.answer.now.channels.now) c.from_residual.ensures.0 c.in_err-put.ensures

pub returns : goal.returns
returns g c = writes_then _ _ _ c.put_list.result (codes ",\"channels\":[") (listed (λ place channel. channel_object c.args.answer.now channel) c.args.answer.now.channels.now) c.in_ok-put.ensures c.put_list.ensures
