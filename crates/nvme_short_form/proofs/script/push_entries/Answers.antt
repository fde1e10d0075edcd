use Rattle.std.proofs.Common.{rules, ◌<◌, ◌≤◌, length, sym, ◌∙◌}
use Rattle.std.proofs.lemmas.Result.{err_from_is_err_and}
use Rattle.nvme_short_form.specs.Scripts.{with_entry}
use Rattle.nvme_short_form.proofs.Turns.{turn_more, turns_done, turn_fails}
use Rattle.nvme_short_form.proofs.script.push_entries.Goals as goal

pub returns-in_err-commands-clause-err : goal.returns-in_err-commands-clause-err
returns-in_err-commands-clause-err c =
    let p = err_from_is_err_and c.from_residual.result c.from_residual.ensures.1 in
    let there : c.loop-index.index < length c.args.entries.now = search rules in
    rw (p.1, p.2) (turn_fails (with_entry c.args.queue) c.args.entries.now c.loop-index.index c.index-entries-index.result (c.loop-index.script.items, c.loop-index.commands) _ _ there c.index-entries-index.is c.in_err-commands.ensures.err c.loop-index.invariant.turns)

pub loop-index-preserved : goal.loop-index-preserved
loop-index-preserved c =
    let there : c.loop-index.index < length c.args.entries.now = search rules in
    record {
      turns = turn_more (with_entry c.args.queue) c.args.entries.now c.loop-index.index c.index-entries-index.result (c.loop-index.script.items, c.loop-index.commands) _ there c.index-entries-index.is c.in_ok-commands.ensures.ok ∙ c.loop-index.invariant.turns;
      fits = c.in_ok-commands.ensures.fits;
    }

pub returns-clause-ok : goal.returns-clause-ok
returns-clause-ok c =
    let over : length c.args.entries.now ≤ c.loop-index.index = search rules in
    sym c.loop-index.invariant.turns ∙ turns_done (with_entry c.args.queue) c.args.entries.now c.loop-index.index (c.loop-index.script.items, c.loop-index.commands) over
