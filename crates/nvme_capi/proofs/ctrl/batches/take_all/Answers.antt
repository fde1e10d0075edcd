use Rattle.std.proofs.Common.{◌∙◌, ◌<◌, length, sym, subst, arith}
use Rattle.nvme_capi.specs.Batches.{TakesOne, NoneToTake, with_slots}
use Rattle.nvme_capi.proofs.Repeats.{each_written, rest_more}
use Rattle.nvme_capi.proofs.ctrl.batches.take_all.Goals as goal

pub returns-then-take_one-ne-OK-clause-all : goal.returns-then-take_one-ne-OK-clause-all
returns-then-take_one-ne-OK-clause-all c = λ _.
    let same = c.take_one.ensures.unchanged c.if-take_one-ne-OK.true in
    subst NoneToTake (λ i. with_slots (sym same.0 i) (sym same.1.0 i)) (c.take_one.ensures.none c.if-take_one-ne-OK.true)

pub returns-then-take_one-ne-OK-clause-front : goal.returns-then-take_one-ne-OK-clause-front
returns-then-take_one-ne-OK-clause-front c = λ it. c.take_one.ensures.front (c.loop-k.invariant.front it)

pub loop-k-preserved : goal.loop-k-preserved
loop-k-preserved c =
    let within : c.loop-k.k < length c.loop-k.commands = omega arith in
    record {
      front = λ it. c.take_one.ensures.front (c.loop-k.invariant.front it);
      depths = c.take_one.ensures.depths ∙ c.loop-k.invariant.depths;
      own = c.take_one.ensures.own ∙ c.loop-k.invariant.own;
      each = each_written TakesOne c.loop-k.commands c.loop-k.k c.take_one.new.command (with_slots c.args.ctrl.now c.args.slots.now) (with_slots c.loop-k.ctrl c.loop-k.slots) (with_slots c.take_one.new.ctrl c.take_one.new.slots)
          within c.loop-k.invariant.each (c.take_one.ensures.taken c.if-take_one-ne-OK.false);
      rest = rest_more c.loop-k.commands c.args.commands.now c.loop-k.k c.take_one.new.command c.loop-k.invariant.rest;
    }
