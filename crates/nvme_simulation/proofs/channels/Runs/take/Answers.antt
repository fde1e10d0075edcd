use Rattle.std.proofs.Common.{◌≡◌, ◌∙◌, ℕ, ◌+◌, ◌<◌, length, ap, sym, arith}
use Rattle.nvme_channels.specs.Devices.{Device, device_of, room_of}
use Rattle.nvme_channels.specs.Runs.{Take}
use Rattle.nvme_channels.specs.Steps.{take_of}
use Rattle.nvme_simulation.specs.Devices.{device_in}
use Rattle.nvme_simulation.proofs.Rooms.{behind_one, take_room}
use Rattle.nvme_simulation.proofs.Started.{answers}
use Rattle.nvme_simulation.proofs.channels.Runs.take.Goals as goal

pub returns-in-Ok-clause-behind : goal.returns-in-Ok-clause-behind
returns-in-Ok-clause-behind c =
    behind_one _ _ (Take c.args.now c.number_of.result c.args.block c.args.service) (ap device_of c.note.ensures.same ∙ ap (λ r. r.1) c.take.ensures)

pub returns-in-Ok-clause-room : goal.returns-in-Ok-clause-room
returns-in-Ok-clause-room c =
    let d = device_in c.args.self.now in
    let some : 0 < length d.channels = omega (arith, c.args.self.now.channels.some, c.args.self.now.channels.channels.ok.0) in
    let is : device_in c.note.new.self ≡ (take_of c.args.now c.number_of.result c.args.block c.args.service d).1 =
    ap device_of c.note.ensures.same ∙ ap (λ r. r.1) c.take.ensures in
    ap (λ (x : Device). room_of x + 1) is
    ∙ take_room c.args.now c.number_of.result c.args.block c.args.service d some c.in-Ok.start (sym (ap (λ r. r.0) c.take.ensures) ∙ c.in-Ok.is)

pub returns-in-Err-clause-behind : goal.returns-in-Err-clause-behind
returns-in-Err-clause-behind c = behind_one _ _ (Take c.args.now c.number_of.result c.args.block c.args.service) (ap (λ r. r.1) c.take.ensures)

pub returns-in-Ok-clause-takes : goal.returns-in-Ok-clause-takes
returns-in-Ok-clause-takes c = ap device_of c.note.ensures.same ∙ ap (λ r. r.1) c.take.ensures ∙ ap (λ (n : ℕ). (take_of c.args.now n c.args.block c.args.service (device_in c.args.self.now)).1) c.number_of.ensures

pub returns-in-Ok-clause-starts : goal.returns-in-Ok-clause-starts
returns-in-Ok-clause-starts c =
    let is = ap (λ (n : ℕ). (take_of c.args.now n c.args.block c.args.service (device_in c.args.self.now)).0) (sym c.number_of.ensures) ∙ sym (ap (λ r. r.0) c.take.ensures) ∙ c.in-Ok.is in
    answers _ _ c.in-Ok.start is c.note.ensures.starts

pub returns-in-Err-clause-takes : goal.returns-in-Err-clause-takes
returns-in-Err-clause-takes c =
    ap (λ r. r.1) c.take.ensures ∙ ap (λ (n : ℕ). (take_of c.args.now n c.args.block c.args.service (device_in c.args.self.now)).1) c.number_of.ensures
