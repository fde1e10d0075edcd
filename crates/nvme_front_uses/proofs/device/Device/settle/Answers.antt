use Rattle.std.proofs.Common.{◌≡◌, [], ◌∷◌, subst, rules}
use mathlib.Core.List.{IsPrefix}
use Rattle.nvme_front.specs.Hosts.{taken_at, collected_at}
use Rattle.nvme_front_uses.proofs.Promises.{promise_kept}
use Rattle.nvme_front_uses.proofs.device.Device.settle.Goals as goal

pub returns-in-Ok-clause-collected : goal.returns-in-Ok-clause-collected
returns-in-Ok-clause-collected g c =
    let one : c.in-Ok-Ok-Ok.drainers.items ≡ c.args.self.drainer ∷ [] = search rules in
    subst (λ drainers. IsPrefix (taken_at drainers 0) (collected_at c.in-Ok.settled.collected.items 0)) one (c.in-Ok.ensures.collected.grew 0)

pub returns-in-Ok-clause-promise : goal.returns-in-Ok-clause-promise
returns-in-Ok-clause-promise g c =
    let device = c.args.self in
    let left = c.in-Ok.ensures in
    promise_kept device.front device.feeder device.drainer c.in-Ok.settled device.fed device.drained device.in_time left.account left.settled
