use Rattle.std.proofs.Common.{◌<◌, length, refl, arith}
use Rattle.nvme_simulation.proofs.Hosted.{all_stay, held, one_goes, one_hears}
use Rattle.nvme_simulation.proofs.hosts.Hosts.completed.Goals as goal

pub returns-in_err-place-clause-goes : goal.returns-in_err-place-clause-goes
returns-in_err-place-clause-goes c now = all_stay now _

pub returns : goal.returns
returns c =
    let hosts = c.args.self.now.all in
    let within : c.in_ok-place.place < length hosts.items = omega (arith, c.in_ok-place.ensures.within, hosts.ok.0) in
    let at = held hosts.items c.in_ok-place.place c.index_mut.result.now within c.index_mut.ensures.value in
    record {
      goes = λ now. one_goes now c.args.self.now _ c.in_ok-place.place c.index_mut.result.now c.completed.new.self refl within at (c.completed.ensures.goes now);
      hears = one_hears _ _ c.args.self.now _ c.in_ok-place.place c.index_mut.result.now c.completed.new.self c.in_ok-place.ensures.behind refl within at
          c.completed.ensures.hears;
    }
