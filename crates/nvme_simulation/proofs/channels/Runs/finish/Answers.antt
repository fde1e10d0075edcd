use Rattle.std.proofs.Common.{◌≡◌, ◌∙◌, ◌≤◌, ◌+◌, ap, sym, subst}
use Rattle.nvme_channels.specs.Devices.{Device, device_of, room_of}
use Rattle.nvme_channels.specs.Runs.{Finish}
use Rattle.nvme_channels.specs.Steps.{finish_of}
use Rattle.nvme_simulation.specs.Devices.{device_in}
use Rattle.nvme_simulation.proofs.Rooms.{behind_none, behind_one, finish_room}
use Rattle.nvme_simulation.proofs.Started.{answers}
use Rattle.nvme_simulation.proofs.channels.Runs.finish.Goals as goal

pub returns-in_default-clause-behind : goal.returns-in_default-clause-behind
returns-in_default-clause-behind c = behind_none _

pub returns-in_default-2-clause-behind : goal.returns-in_default-2-clause-behind
returns-in_default-2-clause-behind c = behind_none _

pub returns-in-Ok-clause-behind : goal.returns-in-Ok-clause-behind
returns-in-Ok-clause-behind c = behind_one _ _ (Finish c.args.now c.args.channel) (ap device_of c.note.ensures.same ∙ ap (λ r. r.1) c.finish.ensures)

pub returns-in-Ok-clause-room : goal.returns-in-Ok-clause-room
returns-in-Ok-clause-room c =
    let d = device_in c.args.self.now in
    let is : device_in c.note.new.self ≡ (finish_of c.args.now c.args.channel d).1 = ap device_of c.note.ensures.same ∙ ap (λ r. r.1) c.finish.ensures in
    subst (λ (x : Device). room_of x ≤ room_of d + 1) (sym is) (finish_room c.args.now c.args.channel d)

pub returns-in-Err-clause-behind : goal.returns-in-Err-clause-behind
returns-in-Err-clause-behind c = behind_one _ _ (Finish c.args.now c.args.channel) (ap (λ r. r.1) c.finish.ensures)

pub returns-in-Ok-clause-ends : goal.returns-in-Ok-clause-ends
returns-in-Ok-clause-ends c = ap device_of c.note.ensures.same ∙ ap (λ r. r.1) c.finish.ensures

pub returns-in-Ok-clause-starts : goal.returns-in-Ok-clause-starts
returns-in-Ok-clause-starts c =
    let is = sym (ap (λ r. r.0) c.finish.ensures) ∙ c.in-Ok.is in
    answers _ _ c.in-Ok.start is c.note.ensures.starts
