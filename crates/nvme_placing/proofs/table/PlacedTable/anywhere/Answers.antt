use Rattle.std.proofs.Common.{rules, ◌≡◌, ◌==◌, false, Some, arith, if◌then◌else◌}
use Rattle.nvme_admin.proofs.PlaceLemmas.{sized-in}
use Rattle.nvme_admin.proofs.Slots.{other}
use Rattle.nvme_placing.specs.declared.table.PlacedTable.{PlacedTable}
use Rattle.nvme_placing.specs.Telling.{placing_of, placing_by}
use Rattle.nvme_placing.proofs.Told.{new-told}
use Rattle.nvme_placing.proofs.table.PlacedTable.anywhere.Goals as goal

pub returns-clause-tells : goal.returns-clause-tells
returns-clause-tells c = λ sq_address cq_address.
    let p : PlacedTable = record { table = c.new_table.result; page = c.args.placement.page; mqes = c.args.placement.mqes; vectors = c.args.placement.vectors; anywhere = 1 } in
    let page : (c.args.placement.page == 0) ≡ false = other c.args.placement.page 0 (λ zero. omega (arith, zero, c.args.placement.page_not_zero)) in
    let some : placing_of p ≡ Some (placing_by c.args.placement) =
    λ i. Some (record { page = if page i then 1 else c.args.placement.page; mqes = c.args.placement.mqes; vectors = c.args.placement.vectors }) in
    new-told p (placing_by c.args.placement) c.args.limits c.args.settings sq_address c.args.sq_slots cq_address c.args.cq_slots some
    (sized-in c.new_table.result (search rules) (search rules) (search rules) (search rules)) c.new_table.ensures
