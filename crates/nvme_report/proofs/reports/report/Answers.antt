-- Each part of the report follows the one before it.
use Rattle.std.proofs.Common.{◌∷◌, [], ◌++◌, reverse}
use Rattle.nvme_report.specs.Report.{collected_text, completions_text, mode_line, picks_text, submissions_text}
use Rattle.nvme_report.proofs.Parts.{fails_fifth, fails_fourth, fails_second, fails_third, writes_sixth}
use Rattle.nvme_report.proofs.reports.report.Goals as goal

pub returns-in_err-put_picks : goal.returns-in_err-put_picks
returns-in_err-put_picks g c =
    let contents = g.W.Write.contents in
    let settled = c.args.settled.now in
    fails_second (contents c.args.writer.now) (contents c.put_mode.new.writer) (contents c.put_picks.new.writer) c.from_residual-in_err-put_picks.result
    (mode_line c.args.mode) (picks_text settled)
    (submissions_text settled ++ (collected_text settled ++ (completions_text settled ++ (101 ∷ 110 ∷ 100 ∷ 10 ∷ []))))
    c.from_residual-in_err-put_picks.ensures.0
    c.in_ok-put_mode.ensures
    (rw c.as_slice-log.ensures.value at c.in_err-put_picks.ensures)

pub returns-in_err-put_submissions : goal.returns-in_err-put_submissions
returns-in_err-put_submissions g c =
    let contents = g.W.Write.contents in
    let settled = c.args.settled.now in
    fails_third (contents c.args.writer.now) (contents c.put_mode.new.writer) (contents c.put_picks.new.writer) (contents c.put_submissions.new.writer) c.from_residual-in_err-put_submissions.result
    (mode_line c.args.mode) (picks_text settled) (submissions_text settled)
    (collected_text settled ++ (completions_text settled ++ (101 ∷ 110 ∷ 100 ∷ 10 ∷ [])))
    c.from_residual-in_err-put_submissions.ensures.0
    c.in_ok-put_mode.ensures (rw c.as_slice-log.ensures.value at c.in_ok-put_picks.ensures)
    (rw c.as_slice-sent.ensures.value at c.in_err-put_submissions.ensures (reverse settled.log.items) (rw c.as_slice-log.ensures.value at c.counts_of-counts.ensures))

pub returns-in_err-put_collected : goal.returns-in_err-put_collected
returns-in_err-put_collected g c =
    let contents = g.W.Write.contents in
    let settled = c.args.settled.now in
    fails_fourth (contents c.args.writer.now) (contents c.put_mode.new.writer) (contents c.put_picks.new.writer) (contents c.put_submissions.new.writer) (contents c.put_collected.new.writer) c.from_residual-in_err-put_collected.result
    (mode_line c.args.mode) (picks_text settled) (submissions_text settled) (collected_text settled)
    (completions_text settled ++ (101 ∷ 110 ∷ 100 ∷ 10 ∷ []))
    c.from_residual-in_err-put_collected.ensures.0
    c.in_ok-put_mode.ensures (rw c.as_slice-log.ensures.value at c.in_ok-put_picks.ensures) (rw c.as_slice-sent.ensures.value at c.in_ok-put_submissions.ensures (reverse settled.log.items) (rw c.as_slice-log.ensures.value at c.counts_of-counts.ensures))
    (rw c.as_slice.ensures.value at c.in_err-put_collected.ensures)

pub returns-in_err-put_completions : goal.returns-in_err-put_completions
returns-in_err-put_completions g c =
    let contents = g.W.Write.contents in
    let settled = c.args.settled.now in
    fails_fifth (contents c.args.writer.now) (contents c.put_mode.new.writer) (contents c.put_picks.new.writer) (contents c.put_submissions.new.writer) (contents c.put_collected.new.writer) (contents c.put_completions.new.writer) c.from_residual-in_err-put_completions.result
    (mode_line c.args.mode) (picks_text settled) (submissions_text settled) (collected_text settled) (completions_text settled)
    (101 ∷ 110 ∷ 100 ∷ 10 ∷ [])
    c.from_residual-in_err-put_completions.ensures.0
    c.in_ok-put_mode.ensures (rw c.as_slice-log.ensures.value at c.in_ok-put_picks.ensures) (rw c.as_slice-sent.ensures.value at c.in_ok-put_submissions.ensures (reverse settled.log.items) (rw c.as_slice-log.ensures.value at c.counts_of-counts.ensures)) (rw c.as_slice.ensures.value at c.in_ok-put_collected.ensures)
    (rw (c.as_slice-log.ensures.value, c.as_slice-sent.ensures.value) at c.in_err-put_completions.ensures)

pub returns : goal.returns
returns g c =
    let contents = g.W.Write.contents in
    let settled = c.args.settled.now in
    writes_sixth (contents c.args.writer.now) (contents c.put_mode.new.writer) (contents c.put_picks.new.writer) (contents c.put_submissions.new.writer) (contents c.put_collected.new.writer) (contents c.put_completions.new.writer) (contents c.put.new.writer) c.put.result
    (mode_line c.args.mode) (picks_text settled) (submissions_text settled) (collected_text settled) (completions_text settled) (101 ∷ 110 ∷ 100 ∷ 10 ∷ [])
    c.in_ok-put_mode.ensures
    (rw c.as_slice-log.ensures.value at c.in_ok-put_picks.ensures)
    (rw c.as_slice-sent.ensures.value at c.in_ok-put_submissions.ensures (reverse settled.log.items) (rw c.as_slice-log.ensures.value at c.counts_of-counts.ensures))
    (rw c.as_slice.ensures.value at c.in_ok-put_collected.ensures)
    (rw (c.as_slice-log.ensures.value, c.as_slice-sent.ensures.value) at c.in_ok-put_completions.ensures)
    c.put.ensures
