use Rattle.std.proofs.Common.{◌<◌, arith}
use Rattle.std.proofs.lemmas.List.{length-take}
use Rattle.std.proofs.Math.Seq.{take-set-lt}
use Rattle.nvme_admin.proofs.layout.Regions.put.Goals as goal

pub returns : goal.returns
returns c =
    let within = rw (length-take c.args.self.now.count c.args.self.now.places) at c.requires in
    let room : c.args.number < c.args.self.now.count = omega arith in
    take-set-lt c.args.self.now.count c.args.self.now.places c.args.number c.args.region room
