use Rattle.std.proofs.Common.{rules, ◌≡◌, None, codes}
use Rattle.clap.specs.Words.{found_of, rows_of}
use Rattle.nvme_words.proofs.Reading.{no_blocks, no_numbers, no_range, no_workers}
use Rattle.nvme_words.proofs.requests.request_of.Goals as goal

pub returns-in_err-blocks_of-in-once : goal.returns-in_err-blocks_of-in-once
returns-in_err-blocks_of-in-once c =
    let none : c.blocks_of.result ≡ None = search rules in
    let left : c.from_residual.result ≡ None = search rules in
    rw left (no_blocks (c.args.name.now, rows_of (found_of c.args.matches.now)) (search rules) (rw none at c.blocks_of.ensures))

pub returns-in_err-workers_of-in-loaded : goal.returns-in_err-workers_of-in-loaded
returns-in_err-workers_of-in-loaded c =
    let none : c.workers_of.result ≡ None = search rules in
    let left : c.from_residual-in_err-workers_of-in-loaded.result ≡ None = search rules in
    rw left (no_workers (c.args.name.now, rows_of (found_of c.args.matches.now)) (search rules) (search rules) (search rules) (search rules) (search rules) (search rules) (search rules) (rw none at c.workers_of.ensures))

pub returns-in_err-workers_of-in-live : goal.returns-in_err-workers_of-in-live
returns-in_err-workers_of-in-live c =
    let none : c.workers_of-in-live.result ≡ None = search rules in
    let left : c.from_residual-in_err-workers_of-in-live.result ≡ None = search rules in
    rw left (no_workers (c.args.name.now, rows_of (found_of c.args.matches.now)) (search rules) (search rules) (search rules) (search rules) (search rules) (search rules) (search rules) (rw none at c.workers_of-in-live.ensures))

pub returns-in_err-workers_of-in-run : goal.returns-in_err-workers_of-in-run
returns-in_err-workers_of-in-run c =
    let none : c.workers_of-in-run.result ≡ None = search rules in
    let left : c.from_residual-in_err-workers_of-in-run.result ≡ None = search rules in
    rw left (no_workers (c.args.name.now, rows_of (found_of c.args.matches.now)) (search rules) (search rules) (search rules) (search rules) (search rules) (search rules) (search rules) (rw none at c.workers_of-in-run.ensures))

pub returns-in_err-workers_of-in-trace : goal.returns-in_err-workers_of-in-trace
returns-in_err-workers_of-in-trace c =
    let none : c.workers_of-in-trace.result ≡ None = search rules in
    let left : c.from_residual-in_err-workers_of-in-trace.result ≡ None = search rules in
    rw left (no_workers (c.args.name.now, rows_of (found_of c.args.matches.now)) (search rules) (search rules) (search rules) (search rules) (search rules) (search rules) (search rules) (rw none at c.workers_of-in-trace.ensures))

pub returns-in_err-range_of-in-chart : goal.returns-in_err-range_of-in-chart
returns-in_err-range_of-in-chart c =
    let none : c.range_of.result ≡ None = search rules in
    let left : c.from_residual-in_err-range_of-in-chart.result ≡ None = search rules in
    rw left (no_range (c.args.name.now, rows_of (found_of c.args.matches.now)) (search rules) (rw none at c.range_of.ensures))

pub returns-in_err-numbers_of-in-stats : goal.returns-in_err-numbers_of-in-stats
returns-in_err-numbers_of-in-stats c =
    let none : c.numbers_of.result ≡ None = search rules in
    let left : c.from_residual-in_err-numbers_of-in-stats.result ≡ None = search rules in
    rw left (no_numbers (c.args.name.now, rows_of (found_of c.args.matches.now)) (search rules) (rw none at c.numbers_of.ensures))

pub returns-in-check : goal.returns-in-check
returns-in-check c =
    let is : c.args.name.now ≡ codes "check" = search rules in
    rw is c.check_of.ensures

pub returns-in_ok-range_of-in-chart : goal.returns-in_ok-range_of-in-chart
returns-in_ok-range_of-in-chart c =
    let is : c.args.name.now ≡ codes "chart" = search rules in
    rw is (c.chart_of.ensures (rows_of (found_of c.args.matches.now)) c.in_ok-range_of-in-chart.ensures c.no_admin_of.ensures)

pub returns-in_ok-numbers_of-in-stats : goal.returns-in_ok-numbers_of-in-stats
returns-in_ok-numbers_of-in-stats c =
    let is : c.args.name.now ≡ codes "stats" = search rules in
    rw is (c.stats_of.ensures (rows_of (found_of c.args.matches.now)) c.in_ok-numbers_of-in-stats.ensures)
