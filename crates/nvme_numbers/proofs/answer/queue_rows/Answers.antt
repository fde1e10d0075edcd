use Rattle.std.proofs.Common.{refl, rules}
use Rattle.nvme_numbers.specs.declared.answer.Member.{Member}
use Rattle.nvme_numbers.proofs.Ranks.{fed_more, rows_more}
use Rattle.nvme_numbers.proofs.answer.queue_rows.Goals as goal

pub loop-queue-preserved : goal.loop-queue-preserved
loop-queue-preserved c =
    let inv = c.loop-queue.invariant in
    let m : Member = record { class = c.queue-item.result.class; row = c.row_of.result } in
    record {
      count = search rules;
      agree = rows_more c.args.span c.args.whole c.loop-queue.queue-index c.args.queues.now c.loop-queue.rows.items c.push.new.self.items c.queue-item.result m
          inv.count c.loop-queue-test.true c.queue-item.is (c.row_of.ensures.row, refl) (search rules) inv.agree;
      fed = fed_more c.args.coming c.loop-queue.queue-index c.args.queues.now c.loop-queue.rows.items c.push.new.self.items c.queue-item.result m inv.count
          c.loop-queue-test.true c.queue-item.is (rw c.row_of.ensures.fed (rw c.settled.ensures at c.fed_of-fed.ensures)) (search rules) inv.fed;
    }
