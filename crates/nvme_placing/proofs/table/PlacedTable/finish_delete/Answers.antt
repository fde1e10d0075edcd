use Rattle.std.proofs.Common.{refl}
use Rattle.nvme_placing.proofs.Told.{finish-told}
use Rattle.nvme_placing.proofs.table.PlacedTable.finish_delete.Goals as goal

pub returns-clause-stands : goal.returns-clause-stands
returns-clause-stands c = λ start h tells.
    finish-told c.args.self.now (record c.args.self.now { table = c.finish_delete.new.self }) c.args.qid start h c.requires refl
    (c.finish_delete.ensures.stands start h) c.finish_delete.ensures.gone c.finish_delete.ensures.rest c.finish_delete.ensures.sized tells
