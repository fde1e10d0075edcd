use Rattle.std.proofs.Common.{◌≡◌, [], sym, ◌∙◌, arith}
use Rattle.std.proofs.lemmas.Result.{err_from_is_err_and}
use Rattle.toml.specs.View.{view, items_view}
use Rattle.nvme_workload.specs.Readings.{in_turn}
use Rattle.nvme_workload.specs.Regions.{with_submission, submissions_of}
use Rattle.nvme_workload.proofs.Turns.{turn_more, turns_done, turn_fails}
use Rattle.nvme_workload.proofs.regions.submissions_of.Goals as goal

pub returns-in_err-commands-clause-value : goal.returns-in_err-commands-clause-value
unfolding submissions_of
returns-in_err-commands-clause-value c =
    let p = err_from_is_err_and c.from_residual-in_err-commands.result c.from_residual-in_err-commands.ensures.1 in
    let whole : in_turn (λ index. with_submission) 0 [] (items_view c.deref-item-items.result.now) ≡ submissions_of (view c.args.value.now) = rw (← c.in_ok-items.ensures.value, c.deref-item-items.ensures.value) in
    rw (p.1, p.2) (turn_fails (λ index. with_submission) c.deref-item-items.result.now c.loop-item.item-index c.item-item.result c.loop-item.regions.items _ _ c.loop-item-test.true c.item-item.is c.in_err-commands.ensures.err (c.loop-item.invariant.turns ∙ whole))

pub loop-item-preserved : goal.loop-item-preserved
loop-item-preserved c = record {
  sound = c.in_ok-commands.ensures.sound c.loop-item.invariant.sound;
  count = omega (arith, c.in_ok-commands.ensures.one);
  all = c.in_ok-commands.ensures.commands.0;
  fit = c.in_ok-commands.ensures.commands.1;
  turns = turn_more (λ index. with_submission) c.deref-item-items.result.now c.loop-item.item-index c.item-item.result c.loop-item.regions.items _ c.loop-item-test.true c.item-item.is c.in_ok-commands.ensures.ok ∙ c.loop-item.invariant.turns;
}

pub returns-clause-value : goal.returns-clause-value
unfolding submissions_of
returns-clause-value c =
    let whole : in_turn (λ index. with_submission) 0 [] (items_view c.deref-item-items.result.now) ≡ submissions_of (view c.args.value.now) = rw (← c.in_ok-items.ensures.value, c.deref-item-items.ensures.value) in
    let done = turns_done (λ index. with_submission) c.deref-item-items.result.now c.loop-item.item-index c.loop-item.regions.items c.loop-item-test.false in
    sym whole ∙ sym c.loop-item.invariant.turns ∙ rw c.new.ensures.items done
