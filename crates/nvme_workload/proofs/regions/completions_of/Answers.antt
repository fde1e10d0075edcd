use Rattle.std.proofs.Common.{◌≡◌, [], sym, ◌∙◌, arith}
use Rattle.std.proofs.lemmas.Result.{err_from_is_err_and}
use Rattle.toml.specs.View.{view, items_view}
use Rattle.nvme_workload.specs.Readings.{in_turn}
use Rattle.nvme_workload.specs.Regions.{with_completion, completions_of}
use Rattle.nvme_workload.proofs.Turns.{turn_more, turns_done, turn_fails}
use Rattle.nvme_workload.proofs.regions.completions_of.Goals as goal

pub returns-in_err-push_completion-clause-value : goal.returns-in_err-push_completion-clause-value
unfolding completions_of
returns-in_err-push_completion-clause-value c =
    let p = err_from_is_err_and c.from_residual-in_err-push_completion.result c.from_residual-in_err-push_completion.ensures.1 in
    let whole : in_turn (λ index. with_completion c.args.submissions.now) 0 [] (items_view c.deref-item-items.result.now) ≡ completions_of c.args.submissions.now (view c.args.value.now) = rw (← c.in_ok-items.ensures.value, c.deref-item-items.ensures.value) in
    rw (p.1, p.2) (turn_fails (λ index. with_completion c.args.submissions.now) c.deref-item-items.result.now c.loop-item.item-index c.item-item.result c.loop-item.regions.items _ _ c.loop-item-test.true c.item-item.is c.in_err-push_completion.ensures.err (c.loop-item.invariant.turns ∙ whole))

pub loop-item-preserved : goal.loop-item-preserved
loop-item-preserved c = record {
  sound = c.in_ok-push_completion.ensures.sound c.loop-item.invariant.sound;
  count = omega (arith, c.in_ok-push_completion.ensures.one);
  turns = turn_more (λ index. with_completion c.args.submissions.now) c.deref-item-items.result.now c.loop-item.item-index c.item-item.result c.loop-item.regions.items _ c.loop-item-test.true c.item-item.is c.in_ok-push_completion.ensures.ok ∙ c.loop-item.invariant.turns;
}

pub returns-clause-value : goal.returns-clause-value
unfolding completions_of
returns-clause-value c =
    let whole : in_turn (λ index. with_completion c.args.submissions.now) 0 [] (items_view c.deref-item-items.result.now) ≡ completions_of c.args.submissions.now (view c.args.value.now) = rw (← c.in_ok-items.ensures.value, c.deref-item-items.ensures.value) in
    let done = turns_done (λ index. with_completion c.args.submissions.now) c.deref-item-items.result.now c.loop-item.item-index c.loop-item.regions.items c.loop-item-test.false in
    sym whole ∙ sym c.loop-item.invariant.turns ∙ rw c.new.ensures.items done
