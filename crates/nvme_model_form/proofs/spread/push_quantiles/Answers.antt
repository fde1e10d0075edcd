use Rattle.std.proofs.Common.{rules, ◌<◌, ◌≤◌, length, sym, ◌∙◌}
use Rattle.std.proofs.lemmas.Result.{err_from_is_err_and}
use Rattle.nvme_model_form.specs.Services.{with_time}
use Rattle.nvme_model_form.proofs.Turns.{turn_more, turn_refused, turns_done}
use Rattle.nvme_model_form.proofs.spread.push_quantiles.Goals as goal

pub returns-in_err-push_time-clause-err : goal.returns-in_err-push_time-clause-err
returns-in_err-push_time-clause-err c =
    let p = err_from_is_err_and c.from_residual.result c.from_residual.ensures.1 in
    let there : c.loop-index.index < length c.args.items.now = search rules in
    rw (p.1, p.2) (turn_refused with_time c.args.items.now c.loop-index.index c.index-items-index.result c.loop-index.times.items _ _ there c.index-items-index.is c.in_err-push_time.ensures.err c.loop-index.invariant.turns)

pub loop-index-preserved : goal.loop-index-preserved
loop-index-preserved c =
    let there : c.loop-index.index < length c.args.items.now = search rules in
    record {
      turns = turn_more with_time c.args.items.now c.loop-index.index c.index-items-index.result c.loop-index.times.items _ there c.index-items-index.is c.in_ok-push_time.ensures.ok ∙ c.loop-index.invariant.turns;
    }

pub returns-clause-ok : goal.returns-clause-ok
returns-clause-ok c =
    let over : length c.args.items.now ≤ c.loop-index.index = search rules in
    sym c.loop-index.invariant.turns ∙ turns_done with_time c.args.items.now c.loop-index.index c.loop-index.times.items over
