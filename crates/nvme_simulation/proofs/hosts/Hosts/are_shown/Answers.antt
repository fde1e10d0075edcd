use Rattle.std.proofs.Common.{arith}
use Rattle.nvme_simulation.proofs.Beginnings.{shown_all, shown_more}
use Rattle.nvme_simulation.proofs.hosts.Hosts.are_shown.Goals as goal

pub loop-place-init : goal.loop-place-init
loop-place-init c k l = absurd (omega (arith, l))

pub loop-place-preserved : goal.loop-place-preserved
loop-place-preserved c =
    shown_more c.args.front.now c.args.self.now.all.items c.loop-place.place c.loop-place.invariant (c.is_shown.ensures (grind (arith, c.if-not-is_shown.false)))

pub returns : goal.returns
returns c t =
    shown_all c.args.front.now c.args.self.now.all.items c.loop-place.place (omega (arith, c.loop-place-test.false, c.args.self.now.all.ok.0))
    c.loop-place.invariant
