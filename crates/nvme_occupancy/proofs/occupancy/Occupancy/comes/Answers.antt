use Rattle.std.proofs.Common.{◌≡◌, rules, arith}
use Rattle.nvme_occupancy.proofs.Balance.{comes_balanced, no_later, one_within}
use Rattle.nvme_occupancy.proofs.occupancy.Occupancy.comes.Goals as goal

pub invariant_of-self : goal.invariant_of-self
invariant_of-self c =
    let o = c.args.self.now in
    let time : c.from.result ≡ c.args.at = search rules in
    record {
      no_more_left = omega (arith, o.no_more_left);
      came_before = rw time (one_within o.came o.until c.args.at o.came_times c.if-at-self.false o.came_before);
      left_before = no_later o.left o.until c.args.at o.left_times c.if-at-self.false o.left_before;
      balanced = rw (time, c.area_at.ensures.value)
          (comes_balanced o.came o.left o.until c.args.at o.area o.came_times o.left_times o.no_more_left c.if-at-self.false o.balanced);
    }
