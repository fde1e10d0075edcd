use Rattle.nvme_admin.specs.History.{Submission, RegionAdded}
use Rattle.std.proofs.Common.{◌∷◌}
use Rattle.nvme_admin.specs.Accepted.{queue_table}
use Rattle.nvme_placing.specs.declared.table.PlacedTable.{PlacedTable}
use Rattle.nvme_placing.proofs.Told.{on-ok, on-regions, region-told}
use Rattle.nvme_placing.proofs.table.PlacedTable.add_sq_region.Goals as goal

pub returns-clause-stands : goal.returns-clause-stands
returns-clause-stands c =
    let new : PlacedTable = record c.args.self.now { table = c.add_sq_region.new.self } in
    on-ok c.add_sq_region.result
    (λ stands start h tells.
    region-told c.args.self.now new (queue_table start h) (queue_table start (RegionAdded Submission c.args.address c.args.slots ∷ h))
    (on-regions c.args.self.now c.if-self-ne0.false) (on-regions new c.if-self-ne0.false) c.add_sq_region.ensures.sized (stands start h) tells)
    c.add_sq_region.ensures.stands
