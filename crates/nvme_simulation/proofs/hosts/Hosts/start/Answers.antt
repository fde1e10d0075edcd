use Rattle.std.proofs.Common.{◌<◌, length, refl, arith}
use Rattle.nvme_simulation.proofs.Hosted.{all_stay, held, one_goes, one_moves}
use Rattle.nvme_simulation.proofs.hosts.Hosts.start.Goals as goal

pub returns-in_default : goal.returns-in_default
returns-in_default c = record { goes = all_stay _ _; moves = tt }

pub returns-then-start : goal.returns-then-start
returns-then-start c =
    let hosts = c.args.self.now.all in
    let within : c.in-Some.place < length hosts.items = omega (arith, c.in-Some.ensures.within, hosts.ok.0) in
    let at = held hosts.items c.in-Some.place c.index_mut.result.now within c.index_mut.ensures.value in
    record {
      goes = one_goes _ c.args.self.now _ c.in-Some.place c.index_mut.result.now c.start.new.self refl within at c.start.ensures.goes;
      moves = one_moves _ _ _ _ c.args.self.now _ c.in-Some.place c.index_mut.result.now c.start.new.self c.in-Some.ensures.behind refl within at
          (c.start.ensures.moves (grind (arith, c.if-start.true)));
    }

pub returns-else-start : goal.returns-else-start
returns-else-start c =
    let hosts = c.args.self.now.all in
    let within : c.in-Some.place < length hosts.items = omega (arith, c.in-Some.ensures.within, hosts.ok.0) in
    let at = held hosts.items c.in-Some.place c.index_mut.result.now within c.index_mut.ensures.value in
    record { goes = one_goes _ c.args.self.now _ c.in-Some.place c.index_mut.result.now c.start.new.self refl within at c.start.ensures.goes; moves = tt }
