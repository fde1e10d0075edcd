use Rattle.std.proofs.Common.{◌≡◌, ◌∙◌, ◌≤◌, ap, sym, subst}
use Rattle.nvme_channels.specs.Devices.{Device, device_of, room_of}
use Rattle.nvme_channels.specs.Runs.{Resume}
use Rattle.nvme_channels.specs.Steps.{resume_of}
use Rattle.nvme_simulation.specs.Devices.{device_in}
use Rattle.nvme_simulation.proofs.Rooms.{behind_one, resume_room}
use Rattle.nvme_simulation.proofs.Started.{answers}
use Rattle.nvme_simulation.proofs.channels.Runs.resume.Goals as goal

pub returns-in-Ok-clause-behind : goal.returns-in-Ok-clause-behind
returns-in-Ok-clause-behind c = behind_one _ _ (Resume c.args.now c.args.channel) (ap device_of c.note.ensures.same ∙ ap (λ r. r.1) c.resume.ensures)

pub returns-in-Ok-clause-room : goal.returns-in-Ok-clause-room
returns-in-Ok-clause-room c =
    let d = device_in c.args.self.now in
    let is : device_in c.note.new.self ≡ (resume_of c.args.now c.args.channel d).1 = ap device_of c.note.ensures.same ∙ ap (λ r. r.1) c.resume.ensures in
    subst (λ (x : Device). room_of x ≤ room_of d) (sym is) (resume_room c.args.now c.args.channel d)

pub returns-in-Err-clause-behind : goal.returns-in-Err-clause-behind
returns-in-Err-clause-behind c = behind_one _ _ (Resume c.args.now c.args.channel) (ap (λ r. r.1) c.resume.ensures)

pub returns-in-Ok-clause-resumes : goal.returns-in-Ok-clause-resumes
returns-in-Ok-clause-resumes c = ap device_of c.note.ensures.same ∙ ap (λ r. r.1) c.resume.ensures

pub returns-in-Ok-clause-starts : goal.returns-in-Ok-clause-starts
returns-in-Ok-clause-starts c =
    let is = sym (ap (λ r. r.0) c.resume.ensures) ∙ c.in-Ok.is in
    answers _ _ c.in-Ok.start is c.note.ensures.starts
