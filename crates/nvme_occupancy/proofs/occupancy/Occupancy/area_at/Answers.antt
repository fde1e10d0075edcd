use Rattle.std.proofs.Common.{◌≡◌, ◌+◌, ◌-◌, ◌*◌, ◌<◌, rules, arith}
use Rattle.nvme_occupancy.proofs.Balance.{fits}
use Rattle.nvme_occupancy.proofs.occupancy.Occupancy.area_at.Goals as goal

pub overflow_add-result : goal.overflow_add-result
overflow_add-result c =
    let o = c.args.self.now in
    let here : c.from.result ≡ o.came - o.left = search rules in
    let passed : c.from-2.result ≡ c.args.at - o.until = search rules in
    let below : o.area + (o.came - o.left) * (c.args.at - o.until) < 0x1_0000_0000_0000_0000_0000_0000_0000_0000 - 0x1_0000_0000_0000_0000 =
    fits o.came o.left o.until c.args.at o.area o.came_times o.left_times o.no_more_left c.requires (omega arith) (omega (arith, c.ranges.at.fits)) o.left_before o.balanced in
    rw (here, passed) (omega (arith, below))
