use Rattle.std.proofs.Common.{ap}
use Rattle.nvme_pool.specs.Seat.{SeatView}
use Rattle.nvme_pool.proofs.Retiring.{pool_passes, pool_shares, one_pushed}
use Rattle.nvme_pool.proofs.teardown.close.Goals as goal

pub gather-left-requires : goal.gather-left-requires
gather-left-requires g c =
    let is = c.seat.view_is in
    let one = one_pushed c.push_reserved.new.self.items c.in-Ok.pushes.items c.seat.inside.jobs c.push_reserved.ensures.items c.in-Ok.ensures.items in
    rw c.lanes.view_is (pool_passes _ c.args.seat c.args.workers.items c.seat.inside.jobs _ _ c.requires (ap (λ (s : SeatView). s.lane) is) (ap (λ (s : SeatView). s.parts) is) one c.retire-pops.ensures.passes)

pub returns-clause-jobs : goal.returns-clause-jobs
returns-clause-jobs g c =
    let is = c.seat.view_is in
    let one = one_pushed c.push_reserved.new.self.items c.in-Ok.pushes.items c.seat.inside.jobs c.push_reserved.ensures.items c.in-Ok.ensures.items in
    pool_shares c.args.seat c.args.workers.items c.seat.inside.jobs _ _ _ (ap (λ (s : SeatView). s.handed) is) one c.retire-pops.ensures.passes c.gather-left.ensures.shares
