use Rattle.std.proofs.Common.{◌≡◌, ◌∙◌, ℕ, None, subst, sym}
use Rattle.nvme_latency.specs.Times.{ranked_times}
use Rattle.nvme_numbers.specs.Rows.{IsRow}
use Rattle.nvme_numbers.specs.inside.Unions.{all_sums, all_times}
use Rattle.nvme_numbers.proofs.Tallies.{row_any_order}
use Rattle.nvme_numbers.proofs.answer.all_row.Goals as goal

pub returns-clause-row : goal.returns-clause-row
returns-clause-row c =
    let queues = c.args.queues.now in
    let union = c.in_ok-union.ensures in
    let whole : c.count.result ≡ c.row_of.result.commands = c.count.ensures ∙ sym c.row_of.ensures.row.commands in
    subst (λ (w : ℕ). IsRow c.args.span w (all_times None queues) (all_sums None queues) c.row_of.result) whole
    (row_any_order c.args.span c.count.result (all_times None queues) (ranked_times c.in_ok-union.union.latencies) (all_sums None queues) c.row_of.result
    union.times (rw union.sums at c.row_of.ensures.row))

pub returns-clause-fed : goal.returns-clause-fed
returns-clause-fed c = rw c.row_of.ensures.fed c.fed_in-fed.ensures
