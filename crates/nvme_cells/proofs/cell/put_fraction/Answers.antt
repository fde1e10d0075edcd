use Rattle.std.proofs.Common.{◌∷◌, [], ◌/◌, ◌%◌, decimal}
use Rattle.nvme_cells.specs.Values.{behind_text}
use Rattle.nvme_output.proofs.Writing.{fails_first, writes_then}
use Rattle.nvme_cells.proofs.cell.put_fraction.Goals as goal

pub returns-in_err-put : goal.returns-in_err-put
returns-in_err-put g c =
    rw (← c.scale-scale.ensures) (writes_then _ _ _ c.from_residual-in_err-put.result (decimal (c.args.units / c.scale-scale.result))
    (46 ∷ behind_text (c.args.units % c.scale-scale.result) c.args.places) c.in_ok-put_number.ensures
    (fails_first _ _ c.from_residual-in_err-put.result (46 ∷ []) (behind_text (c.args.units % c.scale-scale.result) c.args.places)
    c.from_residual-in_err-put.ensures.0 c.in_err-put.ensures))

pub returns : goal.returns
returns g c =
    rw (← c.scale-scale.ensures) (writes_then _ _ _ c.put_behind.result (decimal (c.args.units / c.scale-scale.result))
    (46 ∷ behind_text (c.args.units % c.scale-scale.result) c.args.places) c.in_ok-put_number.ensures
    (writes_then _ _ _ c.put_behind.result (46 ∷ []) (behind_text (c.args.units % c.scale-scale.result) c.args.places)
    c.in_ok-put.ensures c.put_behind.ensures))
