use Rattle.nvme_simulation.proofs.Waiting.{submitted_is}
use Rattle.nvme_simulation.proofs.flight.Flights.submitted.Goals as goal

pub returns : goal.returns
returns c = submitted_is c.args.self.now
