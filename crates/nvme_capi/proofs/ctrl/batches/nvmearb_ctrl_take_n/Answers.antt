use Rattle.std.proofs.Common.{◌∙◌, sym, subst, arith}
use Rattle.nvme_capi.specs.Batches.{TakesOne, NoneToTake, with_slots}
use Rattle.nvme_capi.proofs.Refusals.{not_ok}
use Rattle.nvme_capi.proofs.Repeats.{no_call, all_rest}
use Rattle.nvme_capi.proofs.ctrl.batches.nvmearb_ctrl_take_n.Goals as goal

pub returns-clause-all : goal.returns-clause-all
returns-clause-all c = λ _ less. c.take_all.ensures.all (omega arith)

pub returns-clause-nothing : goal.returns-clause-nothing
returns-clause-nothing c = λ nothing some.
    let none = c.put_count.ensures.none (not_ok c.put_count.result nothing) in
    subst NoneToTake (no_call TakesOne c.take_all.new.commands c.take_all.result (with_slots c.args.state.now.ctrl c.args.slots.now) (with_slots c.take_all.new.ctrl c.take_all.new.slots) none c.take_all.ensures.each)
    (c.take_all.ensures.all (omega arith))

pub returns-clause-unchanged : goal.returns-clause-unchanged
returns-clause-unchanged c = λ not_done.
    let none = c.put_count.ensures.none not_done in
    let same = no_call TakesOne c.take_all.new.commands c.take_all.result (with_slots c.args.state.now.ctrl c.args.slots.now) (with_slots c.take_all.new.ctrl c.take_all.new.slots) none c.take_all.ensures.each in
    ((λ i. record c.args.state.now { ctrl = (same i).ctrl }), ((λ i. (same i).slots), all_rest c.take_all.new.commands c.args.commands.now c.take_all.result none c.take_all.ensures.rest))

pub returns-clause-kept : goal.returns-clause-kept
returns-clause-kept c = λ k. record { front = λ m n. c.take_all.ensures.front (k.front m (sym c.has_slots.ensures ∙ c.if-not-has_slots.false)) }
