use Rattle.std.proofs.Common.{rules, ◌<◌, ◌≤◌, length, sym, ◌∙◌}
use Rattle.std.proofs.lemmas.Result.{err_from_is_err_and}
use Rattle.nvme_workload.specs.Scripts.{with_item}
use Rattle.nvme_workload.proofs.Turns.{turn_more, turns_done, turn_fails}
use Rattle.nvme_workload.proofs.scripts.push_items.Goals as goal

pub returns-in_err-push_item-clause-err : goal.returns-in_err-push_item-clause-err
returns-in_err-push_item-clause-err c =
    let p = err_from_is_err_and c.from_residual.result c.from_residual.ensures.1 in
    let there : c.loop-index.index < length c.args.items.now = search rules in
    rw (p.1, p.2) (turn_fails (with_item c.args.region c.args.earlier) c.args.items.now c.loop-index.index c.index-items-index.result c.loop-index.script.items _ _ there c.index-items-index.is c.in_err-push_item.ensures.err c.loop-index.invariant.turns)

pub loop-index-preserved : goal.loop-index-preserved
loop-index-preserved c =
    let there : c.loop-index.index < length c.args.items.now = search rules in
    record {
      fit = c.in_ok-push_item.ensures.fits;
      numbered = λ h. c.in_ok-push_item.ensures.numbered (c.loop-index.invariant.numbered h);
      turns = turn_more (with_item c.args.region c.args.earlier) c.args.items.now c.loop-index.index c.index-items-index.result c.loop-index.script.items _ there c.index-items-index.is c.in_ok-push_item.ensures.ok ∙ c.loop-index.invariant.turns;
    }

pub returns-clause-ok : goal.returns-clause-ok
returns-clause-ok c =
    let over : length c.args.items.now ≤ c.loop-index.index = search rules in
    sym c.loop-index.invariant.turns ∙ turns_done (with_item c.args.region c.args.earlier) c.args.items.now c.loop-index.index c.loop-index.script.items over
