use Rattle.std.proofs.Common.{length, sym, ap, ◌∙◌, arith, rules}
use Rattle.std.proofs.lemmas.List.{length-set}
use Rattle.nvme_front.specs.View.{FrontView}
use Rattle.nvme_front.proofs.Hosted.{drained_at, Collects-some, Collects-more}
use Rattle.nvme_front.proofs.settlement.collect.Goals as goal

pub beside_cq-rests-requires-clause-pair : goal.beside_cq-rests-requires-clause-pair
beside_cq-rests-requires-clause-pair c =
    let i = c.loop-c.invariant in
    let n = i.drainers in
    drained_at c.loop-c.front c.loop-c.drainers.items (i.collects.takes.places ∙ c.requires ∙ sym i.collects.front.put_places) c.loop-c.c c.index_mut-drainer.result.now (omega arith) (rw c.from.ensures at c.index_mut-drainer.ensures.value)

pub returns-then-not-take_all-clause-kept : goal.returns-then-not-take_all-clause-kept
returns-then-not-take_all-clause-kept c =
    let i = c.loop-c.invariant in
    let n = i.drainers in
    let m = i.puts in
    rw c.from.ensures (Collects-some c.loop-c.c _ _ _ _ _ _ _ _ _ i.collects (omega arith) (omega arith) (rw c.from.ensures at c.index_mut-drainer.ensures.value) c.beside_cq-rests.ensures c.take_all.ensures.ring c.take_all.ensures.grew c.take_all.ensures.next)

pub loop-c-preserved : goal.loop-c-preserved
loop-c-preserved c =
    let i = c.loop-c.invariant in
    let n = i.drainers in
    let m = i.puts in
    record {
      collects = rw c.from.ensures (Collects-more c.loop-c.c _ _ _ _ _ _ _ _ _ i.collects (omega arith) (omega arith) (rw c.from.ensures at c.index_mut-drainer.ensures.value) c.beside_cq-rests.ensures c.take_all.ensures.ring c.take_all.ensures.grew c.take_all.ensures.next (c.take_all.ensures.all (search rules)));
      drainers = rw length-set i.drainers;
      puts = ap (λ (z : FrontView). length z.puts) c.beside_cq-rests.ensures.view ∙ length-set _ _ _ ∙ i.puts;
    }
