use Rattle.std.proofs.Common.{◌≡◌, ◌<◌, List, length, get_or, refl, rules, subst}
use Rattle.nvme_model.specs.declared.queue.Queue.{Queue}
use Rattle.nvme_numbers.specs.declared.numbers.QueueTally.{QueueTally}
use Rattle.nvme_numbers.specs.Feeds.{no_feed}
use Rattle.nvme_numbers.proofs.Feeds.{none_fed}
use Rattle.nvme_numbers.proofs.Ranks.{fresh_more}
use Rattle.nvme_numbers.proofs.numbers.Numbers.new.Goals as goal

pub loop-queue-preserved : goal.loop-queue-preserved
loop-queue-preserved c =
    let inv = c.loop-queue.invariant in
    let i = c.loop-queue.queue-index in
    let q = c.queue-item.result in
    let t : QueueTally = record { class = q.class; tally = c.new.result; feed = no_feed } in
    let items = c.deref-queue-items.ensures.value in
    record {
      count = search rules;
      fresh = fresh_more i c.args.model.now.queues.items c.loop-queue.queues.items c.push.new.self.items q t inv.count
          (subst (λ (v : List Queue). i < length v) items c.loop-queue-test.true) (subst (λ (v : List Queue). q ≡ get_or v i q) items c.queue-item.is)
          (record { priority = refl; times = c.new.ensures.times; sums = c.new.ensures.sums; feed = refl }) (search rules) inv.fresh;
    }

pub returns : goal.returns
returns c =
    let inv = c.loop-queue.invariant in
    let count : length c.loop-queue.queues.items ≡ length c.args.model.now.queues.items = search rules in
    record {
      count = count;
      fresh = inv.fresh;
      began = refl;
      says = record { mechanism = refl; settings = refl; device = refl; seed = refl; warm_up = refl };
      fed = none_fed _ _ refl count inv.fresh;
    }
