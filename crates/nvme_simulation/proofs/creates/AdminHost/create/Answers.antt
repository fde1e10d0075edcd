use Rattle.std.proofs.Common.{◌+◌, ◌-◌, ◌*◌, [], ◌∷◌, true, ap}
use Rattle.nvme_entry.specs.AdminCommand.{admin_command_of}
use Rattle.nvme_entry.specs.declared.admin.AdminCommand.{AdminCommand}
use Rattle.nvme_entry.specs.declared.admin.AdminCommand.TheVariants.{CreateCq, CreateSq}
use Rattle.nvme_simulation.specs.Creating.{Does}
use Rattle.nvme_simulation.specs.Entries.{priority_of}
use Rattle.nvme_simulation.proofs.Creating.{does_same, does_then}
use Rattle.nvme_simulation.proofs.Machines.{front_then, on_ok_to}
use Rattle.nvme_simulation.proofs.creates.AdminHost.create.Goals as goal

pub returns : goal.returns
returns c = record {
  front = front_then _ _ _ c.carry_out.ensures.front c.carry_out-2.ensures.front;
  done = on_ok_to c.carry_out-2.result (λ (second : Does (admin_command_of c.submission_queue.result ∷ []) c.carry_out.new.front c.carry_out-2.new.front).
      let cq : AdminCommand = CreateCq c.args.qid (c.args.slots - 1) (2 * c.args.qid * 4_096) true in
      let sq : AdminCommand = CreateSq c.args.qid (c.args.slots - 1) ((2 * c.args.qid + 1) * 4_096) c.args.qid (priority_of c.args.class) true in
      does_then (cq ∷ []) (sq ∷ []) c.args.front.now c.carry_out.new.front c.carry_out-2.new.front
      (does_same (admin_command_of c.completion_queue.result ∷ []) (cq ∷ []) c.args.front.now c.carry_out.new.front
      (ap (λ (k : AdminCommand). k ∷ []) c.completion_queue.ensures) c.in_ok-carry_out.ensures.done)
      (does_same (admin_command_of c.submission_queue.result ∷ []) (sq ∷ []) c.carry_out.new.front c.carry_out-2.new.front
      (ap (λ (k : AdminCommand). k ∷ []) c.submission_queue.ensures) second)) c.carry_out-2.ensures.done;
}
