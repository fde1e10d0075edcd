use Rattle.std.proofs.Common.{◌≡◌, ◌≤◌, ltb, false, [], List, length, Result, Ok, sym, ◌∙◌, arith}
use Rattle.std.proofs.lemmas.Bool.{le-ltb}
use Rattle.std.proofs.lemmas.Result.{err_from_is_err_and}
use Rattle.toml.specs.Data.{Data, Items}
use Rattle.toml.specs.View.{view, items_view}
use Rattle.toml.specs.declared.value.Value.{Value}
use Rattle.nvme_entry.specs.declared.namespaces.TheConstants.{MAX_NAMESPACES}
use Rattle.nvme_workload.specs.declared.key.Key.TheVariants as key
use Rattle.nvme_workload.specs.declared.flaw.PlanError.{PlanError}
use Rattle.nvme_workload.specs.declared.place.Spot.TheVariants.{Top}
use Rattle.nvme_workload.specs.Readings.{in_turn, item_count, array_of}
use Rattle.nvme_workload.specs.Plan.{with_size, sizes_of}
use Rattle.nvme_workload.proofs.Turns.{item_count_view, turn_more, turns_done, turn_fails}
use Rattle.nvme_workload.proofs.file.spaces_of.Goals as goal

-- the sizes of an array that is not too long are its items read in turn
abbrev Read : Type 0
Read = Result Items PlanError

whole : (d : Data) (vs : List Value) (read : Read) → read ≡ array_of Top key.Namespaces d → read ≡ Ok (items_view vs) → length vs ≤ MAX_NAMESPACES → in_turn (λ index. with_size) 0 [] (items_view vs) ≡ sizes_of d
unfolding sizes_of
whole d vs read is ok le =
    let few : ltb MAX_NAMESPACES (item_count (items_view vs)) ≡ false = le-ltb _ _ (omega (arith, item_count_view vs)) in
    rw (← is, ok, few)

pub returns-in_err-push_size-clause-value : goal.returns-in_err-push_size-clause-value
returns-in_err-push_size-clause-value c =
    let p = err_from_is_err_and c.from_residual-in_err-push_size.result c.from_residual-in_err-push_size.ensures.1 in
    let same = whole (view c.args.value.now) c.deref-item-items.result.now _ c.in_ok-items.ensures (rw c.deref-item-items.ensures.value) (omega arith) in
    rw (p.1, p.2) (turn_fails (λ index. with_size) c.deref-item-items.result.now c.loop-item.item-index c.item-item.result c.loop-item.sizes.items _ _ c.loop-item-test.true c.item-item.is c.in_err-push_size.ensures.err (c.loop-item.invariant.turns ∙ same))

pub loop-item-preserved : goal.loop-item-preserved
loop-item-preserved c = record {
  sound = c.in_ok-push_size.ensures.sound c.loop-item.invariant.sound;
  count = omega (arith, c.in_ok-push_size.ensures.one);
  turns = turn_more (λ index. with_size) c.deref-item-items.result.now c.loop-item.item-index c.item-item.result c.loop-item.sizes.items _ c.loop-item-test.true c.item-item.is c.in_ok-push_size.ensures.ok ∙ c.loop-item.invariant.turns;
}

pub returns-in-Ok-clause-value : goal.returns-in-Ok-clause-value
returns-in-Ok-clause-value c =
    let same = whole (view c.args.value.now) c.deref-item-items.result.now _ c.in_ok-items.ensures (rw c.deref-item-items.ensures.value) (omega arith) in
    let done = turns_done (λ index. with_size) c.deref-item-items.result.now c.loop-item.item-index c.loop-item.sizes.items c.loop-item-test.false in
    sym same ∙ sym c.loop-item.invariant.turns ∙ rw (c.in-Ok.ensures.ok, c.deref.ensures.value) done
