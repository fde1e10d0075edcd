use Rattle.std.proofs.Common.{◌∙◌, ◌<◌, length, sym, subst, arith}
use Rattle.nvme_capi.specs.Batches.{PostsOne, NoneToPost, with_slots}
use Rattle.nvme_capi.proofs.Repeats.{each_written, rest_more}
use Rattle.nvme_capi.proofs.ctrl.batches.post_all.Goals as goal

pub returns-then-post_one-ne-OK-clause-all : goal.returns-then-post_one-ne-OK-clause-all
returns-then-post_one-ne-OK-clause-all c = λ _.
    let same = c.post_one.ensures.unchanged c.if-post_one-ne-OK.true in
    subst (NoneToPost c.args.cqid) (λ i. with_slots (sym same.0 i) (sym same.1.0 i)) (c.post_one.ensures.none c.if-post_one-ne-OK.true)

pub returns-then-post_one-ne-OK-clause-front : goal.returns-then-post_one-ne-OK-clause-front
returns-then-post_one-ne-OK-clause-front c = λ it. c.post_one.ensures.front (c.loop-k.invariant.front it)

pub loop-k-preserved : goal.loop-k-preserved
loop-k-preserved c =
    let within : c.loop-k.k < length c.loop-k.posts = omega arith in
    record {
      front = λ it. c.post_one.ensures.front (c.loop-k.invariant.front it);
      depths = c.post_one.ensures.depths ∙ c.loop-k.invariant.depths;
      own = c.post_one.ensures.own ∙ c.loop-k.invariant.own;
      each = each_written (PostsOne c.args.cqid) c.loop-k.posts c.loop-k.k c.post_one.new.post (with_slots c.args.ctrl.now c.args.slots.now) (with_slots c.loop-k.ctrl c.loop-k.slots) (with_slots c.post_one.new.ctrl c.post_one.new.slots)
          within c.loop-k.invariant.each (c.post_one.ensures.posted c.if-post_one-ne-OK.false);
      generations = λ x. c.post_one.ensures.generations x ∙ c.loop-k.invariant.generations x;
      rest = rest_more c.loop-k.posts c.args.posts.now c.loop-k.k c.post_one.new.post c.loop-k.invariant.rest;
    }
