use Rattle.std.proofs.Common.{refl, sym, arith}
use Rattle.nvme_simulation.proofs.Handling.{left_behind, stays_machine, stays_self, stays_time}
use Rattle.nvme_simulation.proofs.Machines.{all_at, works}
use Rattle.nvme_simulation.proofs.simulation.Simulation.pause.Goals as goal

pub returns-in_default-clause-stays : goal.returns-in_default-clause-stays
returns-in_default-clause-stays c = stays_self _ c.requires.front

pub returns-in_err-pause-clause-stays : goal.returns-in_err-pause-clause-stays
returns-in_err-pause-clause-stays c = stays_machine _ _ (works _ _ c.pause.ensures.goes)

pub returns-clause-stays : goal.returns-clause-stays
returns-clause-stays c = stays_machine _ _ (works _ _ c.pause.ensures.goes)

pub returns-clause-handles : goal.returns-clause-handles
returns-clause-handles c =
    let old = c.args.self.now in
    let after = record old { machine = c.pause.new.self } in
    let stays = stays_machine old c.pause.new.self (works _ _ c.pause.ensures.goes) in
    record {
      tells = refl;
      timed = tt;
      counts = refl;
      passes = all_at _ _ _ _ (sym (stays_time old after stays)) c.pause.ensures.goes.hosts;
      plans = record { pauses = c.in-Some.pauses; are = c.in-Some.is; does = c.in_ok-pause.ensures.pauses };
      cost =
          let costs = c.in_ok-pause.ensures.cost in
          let some = c.in-Some.pauses.some in
          omega (arith, left_behind old after stays, costs, some, c.pause.ensures.below);
    }
