use Rattle.std.proofs.Common.{sym, ◌∙◌, arith}
use Rattle.nvme_arbiter.specs.Layout.{slots_in}
use Rattle.nvme_arbiter.proofs.MaskLemmas.{seen-none, seen-some, seen-all, slots-length}
use Rattle.nvme_arbiter.proofs.queues.QueuesFields.seen.Goals as goal
use Rattle.nvme_arbiter.proofs.queues.QueuesFields.seen.Goals.{in-Some, in_default}

pub loop-qid-preserved : goal.loop-qid-preserved
loop-qid-preserved c =
    let i = c.loop-qid.invariant in
    let few = i.few in
    let slots = slots_in c.args.self.now in
    elim c.match-queue.branch [
      | in-Some w ↦
          let p = w.push.ensures in
          let n = p.len in
          record {
            few = rw w.seen-is (omega arith);
            seen_is = rw w.seen-is (p.items ∙ seen-some slots c.loop-qid.qid w.in-Some.queue c.loop-qid.seen.items (sym w.in-Some.ensures.is_there) i.seen_is);
          }
      | in_default w ↦
          record {
            few = rw w.seen-is (omega arith);
            seen_is = rw w.seen-is (seen-none slots c.loop-qid.qid c.loop-qid.seen.items (sym c.queue.ensures.is_there ∙ w.in_default.is) i.seen_is);
          }
    ]

pub returns : goal.returns
returns c =
    let n = slots-length c.args.self.now in
    seen-all (slots_in c.args.self.now) c.loop-qid.qid c.loop-qid.seen.items (omega arith) c.loop-qid.invariant.seen_is
