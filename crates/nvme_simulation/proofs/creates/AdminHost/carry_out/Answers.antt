use Rattle.std.proofs.Common.{◌≡◌, [], ◌∷◌, true, subst, arith}
use Rattle.nvme_entry.specs.AdminCommand.{admin_command_of}
use Rattle.nvme_entry.specs.declared.submission.Sqe.{Sqe}
use Rattle.nvme_simulation.specs.Creating.{Does, opens}
use Rattle.nvme_simulation.proofs.Creating.{does_keeps, keeps_does}
use Rattle.nvme_simulation.proofs.Machines.{front_then, on_ok}
use Rattle.nvme_simulation.proofs.creates.AdminHost.carry_out.Goals as goal

pub returns-in_default : goal.returns-in_default
returns-in_default c = record { front = front_then _ _ _ c.submit.ensures.front c.pick.ensures.front; done = tt }

pub returns-then-not-is_created : goal.returns-then-not-is_created
returns-then-not-is_created c = record { front = front_then _ _ _ c.submit.ensures.front c.pick.ensures.front; done = tt }

pub returns : goal.returns
returns c =
    let is : (opens c.in-Done.effect ≡ true) × (c.in-Done.entry ≡ c.args.command.now) = c.is_created.ensures (grind (arith, c.if-not-is_created.false)) in
    record {
      front = front_then _ _ _ (front_then _ _ _ c.submit.ensures.front c.pick.ensures.front) c.collect.ensures.front;
      done = on_ok c.collect.result
          (does_keeps (admin_command_of c.args.command.now ∷ []) c.args.front.now c.pick.new.self c.collect.new.front
          (keeps_does (admin_command_of c.args.command.now ∷ []) c.args.front.now c.submit.new.front c.pick.new.self c.submit.ensures.keeps
          (subst (λ (e : Sqe). Does (admin_command_of e ∷ []) c.submit.new.front c.pick.new.self) is.1
          (c.pick.ensures.done c.in-Done.effect c.in-Done.entry c.in-Done.is is.0))) c.collect.ensures.keeps);
    }
