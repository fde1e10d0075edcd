use Rattle.std.proofs.Common.{◌<◌, length, arith}
use Rattle.nvme_simulation.proofs.Hosted.{held}
use Rattle.nvme_simulation.proofs.hosts.Hosts.has_submitted.Goals as goal

pub returns-in-Some : goal.returns-in-Some
returns-in-Some c has =
    let hosts = c.args.self.now.all in
    let within : c.in-Some.place < length hosts.items = omega (arith, c.in-Some.ensures.within, hosts.ok.0) in
    record {
      place = c.in-Some.place;
      queue = c.in-Some.ensures.behind;
      host = c.index.result.now;
      at = held hosts.items c.in-Some.place c.index.result.now within c.index.ensures;
      all = c.has_submitted.ensures has;
    }
