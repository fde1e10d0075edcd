use Rattle.std.proofs.Common.{◌≤◌, ◌+◌, length, rules}
use Rattle.nvme_simulation.specs.declared.flight.Flights.{Flights}
use Rattle.nvme_simulation.proofs.Waiting.{none_waits}
use Rattle.nvme_simulation.proofs.flight.Flights.wait.Goals as goal

pub returns : goal.returns
returns c is =
    let f : Flights = c.args.self.now in
    let past : f.first + length f.kept.items ≤ f.next = search rules in
    none_waits f past
