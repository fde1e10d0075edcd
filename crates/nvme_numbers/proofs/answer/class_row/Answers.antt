use Rattle.std.proofs.Common.{Some}
use Rattle.nvme_latency.specs.Times.{ranked_times}
use Rattle.nvme_numbers.specs.inside.Unions.{all_times}
use Rattle.nvme_numbers.proofs.Tallies.{row_any_order}
use Rattle.nvme_numbers.proofs.answer.class_row.Goals as goal

pub returns-clause-row : goal.returns-clause-row
returns-clause-row c =
    let union = c.in_ok-union.ensures in
    row_any_order c.args.span c.args.whole (all_times (Some c.args.class) c.args.queues.now) (ranked_times c.in_ok-union.union.latencies) _ c.row_of.result
    union.times (rw union.sums at c.row_of.ensures.row)

pub returns-clause-fed : goal.returns-clause-fed
returns-clause-fed c = rw c.row_of.ensures.fed c.fed_in-fed.ensures
