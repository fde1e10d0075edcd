use Rattle.std.proofs.Common.{◌<◌, length, refl, arith}
use Rattle.nvme_simulation.proofs.Hosted.{held, one_comes}
use Rattle.nvme_simulation.proofs.Resting.{one_rests}
use Rattle.nvme_simulation.proofs.Machines.{on_ok_to}
use Rattle.nvme_simulation.proofs.hosts.Hosts.come.Goals as goal

pub returns : goal.returns
returns c =
    let hosts = c.args.self.now.all in
    let within : c.in-Some.place < length hosts.items = omega (arith, c.in-Some.ensures.within, hosts.ok.0) in
    let at = held hosts.items c.in-Some.place c.index_mut.result.now within c.index_mut.ensures.value in
    record {
      comes = on_ok_to c.come.result
          (one_comes _ _ _ c.args.self.now _ c.in-Some.place c.index_mut.result.now c.come.new.self c.in-Some.ensures.behind refl within at) c.come.ensures.comes;
      rests = on_ok_to c.come.result (one_rests c.args.self.now _ c.in-Some.place c.index_mut.result.now c.come.new.self refl within at) c.come.ensures.rests;
    }
