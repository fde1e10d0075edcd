use Rattle.std.proofs.Common.{◌≡◌, ◌<◌, length, refl, arith, rules}
use Rattle.nvme_simulation.specs.declared.flight.Flights.{Flights}
use Rattle.nvme_simulation.specs.declared.flight.Stage.TheVariants.{Done}
use Rattle.nvme_simulation.proofs.Moves.{forgets}
use Rattle.nvme_simulation.proofs.flight.Flights.forget_one.Goals as goal

pub returns : goal.returns
returns c =
    let f : Flights = c.args.self.now in
    let some : 0 < length f.kept.items = search rules in
    let done : c.in-Some.flight.now.stage ≡ Done = grind (arith, c.if-ne.false, c.ne.ensures) in
    forgets f _ c.in-Some.flight.now some c.in-Some.ensures.lookup c.pop_front.ensures.rest refl done
