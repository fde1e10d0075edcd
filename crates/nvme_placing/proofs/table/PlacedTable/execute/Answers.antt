use Rattle.std.proofs.Common.{refl, ap, sym}
use Rattle.nvme_admin.specs.Effects.{verdict_in}
use Rattle.nvme_admin.specs.declared.fields.TableFields.{TableFields}
use Rattle.nvme_placing.specs.Telling.{placing_by}
use Rattle.nvme_placing.proofs.Told.{carried-status, carried-verdict, carried-dw0, carried-stands}
use Rattle.nvme_placing.proofs.table.PlacedTable.execute.Goals as goal

pub returns-in-Some-clause-status : goal.returns-in-Some-clause-status
returns-in-Some-clause-status c = λ start h tells.
    carried-status c.args.self.now (record c.args.self.now { table = c.execute.new.table }) (placing_by c.in-Some.placement) c.args.entry.now (verdict_in c.execute.result) start h
    (sym c.in-Some.ensures) c.execute.ensures.carries tells

pub returns-in-Some-clause-verdict : goal.returns-in-Some-clause-verdict
returns-in-Some-clause-verdict c = λ start h tells.
    carried-verdict c.args.self.now (record c.args.self.now { table = c.execute.new.table }) (placing_by c.in-Some.placement) c.args.entry.now (verdict_in c.execute.result) start h
    (sym c.in-Some.ensures) c.execute.ensures.carries tells

pub returns-in-Some-clause-stands : goal.returns-in-Some-clause-stands
returns-in-Some-clause-stands c = λ start h tells.
    carried-stands c.args.self.now (record c.args.self.now { table = c.execute.new.table }) (placing_by c.in-Some.placement) c.args.entry.now (verdict_in c.execute.result) start h
    (sym c.in-Some.ensures) refl c.execute.ensures.carries
    (λ tokens bad. ap (λ (t : TableFields). record c.args.self.now { table = t }) (c.execute.ensures.unchanged tokens bad)) tells

pub returns-in-Some-clause-dw0 : goal.returns-in-Some-clause-dw0
returns-in-Some-clause-dw0 c = λ start h tells.
    carried-dw0 c.args.self.now (record c.args.self.now { table = c.execute.new.table }) (placing_by c.in-Some.placement) c.args.entry.now (verdict_in c.execute.result) start h
    (sym c.in-Some.ensures) c.execute.ensures.carries tells
