use Rattle.std.proofs.Common.{◌∷◌, []}
use Rattle.nvme_cells.specs.Rows.{json_value}
use Rattle.nvme_cells.specs.Strings.{json_string}
use Rattle.nvme_cells.specs.Values.{value_of}
use Rattle.nvme_output.proofs.Writing.{fails_first, writes_then}
use Rattle.nvme_cells.proofs.field.put_member.Goals as goal

pub returns-in_err-put_string : goal.returns-in_err-put_string
returns-in_err-put_string g c =
    fails_first _ _ c.from_residual.result (json_string c.args.field.now.name.now) (58 ∷ json_value (value_of c.args.field.now.cell)) c.from_residual.ensures.0 c.in_err-put_string.ensures

pub returns-in_err-put : goal.returns-in_err-put
returns-in_err-put g c =
    writes_then _ _ _ c.from_residual-in_err-put.result (json_string c.args.field.now.name.now) (58 ∷ json_value (value_of c.args.field.now.cell)) c.in_ok-put_string.ensures
    (fails_first _ _ c.from_residual-in_err-put.result (58 ∷ []) (json_value (value_of c.args.field.now.cell)) c.from_residual-in_err-put.ensures.0 c.in_err-put.ensures)

pub returns : goal.returns
returns g c =
    writes_then _ _ _ c.put_json.result (json_string c.args.field.now.name.now) (58 ∷ json_value (value_of c.args.field.now.cell)) c.in_ok-put_string.ensures
    (writes_then _ _ _ c.put_json.result (58 ∷ []) (json_value (value_of c.args.field.now.cell)) c.in_ok-put.ensures c.put_json.ensures)
