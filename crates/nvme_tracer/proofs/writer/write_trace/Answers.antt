use Rattle.std.specs.List.{flat_map}
use Rattle.nvme_output.proofs.Writing.{fails_first, writes_then}
use Rattle.nvme_tracer.specs.Text.{text_of_event, text_of_head}
use Rattle.nvme_tracer.proofs.writer.write_trace.Goals as goal

pub returns-in_err-put_head : goal.returns-in_err-put_head
returns-in_err-put_head g c =
    fails_first _ _ c.from_residual.result (text_of_head c.args.mechanism c.args.settings) (flat_map text_of_event c.args.log.now) c.from_residual.ensures.0 c.in_err-put_head.ensures

pub returns : goal.returns
returns g c =
    writes_then _ _ _ c.put_events.result (text_of_head c.args.mechanism c.args.settings) (flat_map text_of_event c.args.log.now) c.in_ok-put_head.ensures c.put_events.ensures
