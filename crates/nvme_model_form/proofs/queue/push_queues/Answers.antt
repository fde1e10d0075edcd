use Rattle.std.proofs.Common.{rules, ◌<◌, ◌≤◌, length, map, sym, ◌∙◌, arith}
use Rattle.toml.specs.View.{table_view}
use Rattle.std.proofs.lemmas.Result.{err_from_is_err_and}
use Rattle.nvme_model_form.specs.Queues.{with_queue}
use Rattle.nvme_model_form.specs.Views.{asking_of}
use Rattle.nvme_model_form.proofs.Turns.{turn_more, turn_refused, turns_done}
use Rattle.nvme_model_form.proofs.queue.push_queues.Goals as goal

pub returns-in_err-push_queue-clause-err : goal.returns-in_err-push_queue-clause-err
returns-in_err-push_queue-clause-err c =
    let p = err_from_is_err_and c.from_residual.result c.from_residual.ensures.1 in
    let there : c.loop-index.index < length c.args.items.now = search rules in
    rw (p.1, p.2) (turn_refused (with_queue c.args.size (table_view c.args.device.now)) c.args.items.now c.loop-index.index c.index-items-index.result (map asking_of c.loop-index.queues.items) _ _ there c.index-items-index.is c.in_err-push_queue.ensures.err c.loop-index.invariant.turns)

pub loop-index-preserved : goal.loop-index-preserved
loop-index-preserved c =
    let there : c.loop-index.index < length c.args.items.now = search rules in
    record {
      turns = turn_more (with_queue c.args.size (table_view c.args.device.now)) c.args.items.now c.loop-index.index c.index-items-index.result (map asking_of c.loop-index.queues.items) _ there c.index-items-index.is c.in_ok-push_queue.ensures.ok ∙ c.loop-index.invariant.turns;
      count = omega (arith, c.in_ok-push_queue.ensures.one, c.loop-index.invariant.count);
      within = omega (arith, there);
    }

pub returns-clause-ok : goal.returns-clause-ok
returns-clause-ok c =
    let over : length c.args.items.now ≤ c.loop-index.index = search rules in
    sym c.loop-index.invariant.turns ∙ turns_done (with_queue c.args.size (table_view c.args.device.now)) c.args.items.now c.loop-index.index (map asking_of c.loop-index.queues.items) over
