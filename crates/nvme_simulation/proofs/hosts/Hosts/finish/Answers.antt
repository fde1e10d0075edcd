use Rattle.std.proofs.Common.{◌<◌, length, refl, arith}
use Rattle.nvme_simulation.proofs.Hosted.{held, one_ends}
use Rattle.nvme_simulation.proofs.Resting.{one_rests}
use Rattle.nvme_simulation.proofs.hosts.Hosts.finish.Goals as goal

pub returns-in-Some-finish : goal.returns-in-Some-finish
returns-in-Some-finish c =
    let hosts = c.args.self.now.all in
    let within : c.in-Some.place < length hosts.items = omega (arith, c.in-Some.ensures.within, hosts.ok.0) in
    let at = held hosts.items c.in-Some.place c.index_mut.result.now within c.index_mut.ensures.value in
    record {
      ends = λ now. one_ends _ _ now _ c.args.self.now _ c.in-Some.place c.index_mut.result.now c.finish.new.self c.in-Some.ensures.behind refl within at
          (c.in-Some-finish.ensures.ends now);
      rests = one_rests c.args.self.now _ c.in-Some.place c.index_mut.result.now c.finish.new.self refl within at c.finish.ensures.rests;
    }
