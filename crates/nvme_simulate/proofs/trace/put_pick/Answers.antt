use Rattle.std.proofs.Common.{◌++◌}
use Rattle.nvme_output.proofs.Writing.{fails_first, writes_then}
use Rattle.nvme_tracer.specs.Text.{text_of_seen}
use Rattle.nvme_simulate.specs.Trace.{text_before_seen, text_of_time}
use Rattle.nvme_simulate.proofs.trace.put_pick.Goals as goal

pub returns-in_err-put_picked : goal.returns-in_err-put_picked
returns-in_err-put_picked g c =
    fails_first _ _ c.from_residual.result (text_before_seen c.args.picked.now) (text_of_seen c.args.seen.now ++ text_of_time c.args.picked.now.at) c.from_residual.ensures.0 c.in_err-put_picked.ensures

pub returns-in_err-put_seen : goal.returns-in_err-put_seen
returns-in_err-put_seen g c =
    writes_then _ _ _ c.from_residual-in_err-put_seen.result (text_before_seen c.args.picked.now) (text_of_seen c.args.seen.now ++ text_of_time c.args.picked.now.at) c.in_ok-put_picked.ensures
    (fails_first _ _ c.from_residual-in_err-put_seen.result (text_of_seen c.args.seen.now) (text_of_time c.args.picked.now.at) c.from_residual-in_err-put_seen.ensures.0 c.in_err-put_seen.ensures)

pub returns : goal.returns
returns g c =
    writes_then _ _ _ c.put_time.result (text_before_seen c.args.picked.now) (text_of_seen c.args.seen.now ++ text_of_time c.args.picked.now.at) c.in_ok-put_picked.ensures
    (writes_then _ _ _ c.put_time.result (text_of_seen c.args.seen.now) (text_of_time c.args.picked.now.at) c.in_ok-put_seen.ensures c.put_time.ensures)
