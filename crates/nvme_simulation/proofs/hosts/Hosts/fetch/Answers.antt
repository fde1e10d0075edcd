use Rattle.std.proofs.Common.{◌<◌, length, refl, arith}
use Rattle.nvme_simulation.proofs.Hosted.{all_stay, held, one_goes}
use Rattle.nvme_simulation.proofs.Machines.{on_ok}
use Rattle.nvme_simulation.proofs.Resting.{all_rest, one_rests}
use Rattle.nvme_simulation.proofs.hosts.Hosts.fetch.Goals as goal

pub returns-in_default : goal.returns-in_default
returns-in_default c = record { goes = λ now. all_stay now _; rests = all_rest _; io = tt }

pub returns : goal.returns
returns c =
    let hosts = c.args.self.now.all in
    let within : c.in-Some.place < length hosts.items = omega (arith, c.in-Some.ensures.within, hosts.ok.0) in
    let at = held hosts.items c.in-Some.place c.index_mut.result.now within c.index_mut.ensures.value in
    record {
      goes = λ now. one_goes now c.args.self.now _ c.in-Some.place c.index_mut.result.now c.fetch.new.self refl within at (c.fetch.ensures.goes now);
      rests = one_rests c.args.self.now _ c.in-Some.place c.index_mut.result.now c.fetch.new.self refl within at c.fetch.ensures.rests;
      io = on_ok c.fetch.result (λ zero. absurd (omega (arith, zero, c.in-Some.ensures.behind)));
    }
