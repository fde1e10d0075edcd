use Rattle.std.proofs.Common.{◌<◌, length, refl, arith}
use Rattle.nvme_simulation.proofs.Hosted.{all_stay, held, one_goes, one_moves}
use Rattle.nvme_simulation.proofs.hosts.Hosts.pick.Goals as goal

pub returns-in_default : goal.returns-in_default
returns-in_default c = record { goes = all_stay _ _; asks = tt; moves = tt }

pub returns-in-Some-pick : goal.returns-in-Some-pick
returns-in-Some-pick c =
    let hosts = c.args.self.now.all in
    let within : c.in-Some.place < length hosts.items = omega (arith, c.in-Some.ensures.within, hosts.ok.0) in
    let at = held hosts.items c.in-Some.place c.index_mut.result.now within c.index_mut.ensures.value in
    record {
      goes = one_goes _ c.args.self.now _ c.in-Some.place c.index_mut.result.now c.pick.new.self refl within at c.pick.ensures.goes;
      asks = record { place = c.in-Some.place; queue = c.in-Some.ensures.behind; host = c.index_mut.result.now; at = at; asks = c.in-Some-pick.ensures.asks };
      moves = one_moves _ _ _ _ c.args.self.now _ c.in-Some.place c.index_mut.result.now c.pick.new.self c.in-Some.ensures.behind refl within at
          c.in-Some-pick.ensures.moves;
    }

pub returns-in-None : goal.returns-in-None
returns-in-None c =
    let hosts = c.args.self.now.all in
    let within : c.in-Some.place < length hosts.items = omega (arith, c.in-Some.ensures.within, hosts.ok.0) in
    let at = held hosts.items c.in-Some.place c.index_mut.result.now within c.index_mut.ensures.value in
    record { goes = one_goes _ c.args.self.now _ c.in-Some.place c.index_mut.result.now c.pick.new.self refl within at c.pick.ensures.goes; asks = tt; moves = tt }
