use Rattle.std.proofs.Common.{◌∷◌, [], ◌++◌}
use Rattle.std.specs.List.{flat_map}
use Rattle.nvme_cells.specs.Strings.{json_byte}
use Rattle.nvme_output.proofs.Writing.{fails_first, writes_then}
use Rattle.nvme_cells.proofs.json.put_string.Goals as goal

pub returns-in_err-put : goal.returns-in_err-put
returns-in_err-put g c = fails_first _ _ c.from_residual.result (34 ∷ []) (flat_map json_byte c.args.text.now ++ (34 ∷ [])) c.from_residual.ensures.0 c.in_err-put.ensures

pub returns-in_err-put_bytes : goal.returns-in_err-put_bytes
returns-in_err-put_bytes g c =
    writes_then _ _ _ c.from_residual-in_err-put_bytes.result (34 ∷ []) (flat_map json_byte c.args.text.now ++ (34 ∷ [])) c.in_ok-put.ensures
    (fails_first _ _ c.from_residual-in_err-put_bytes.result (flat_map json_byte c.args.text.now) (34 ∷ []) c.from_residual-in_err-put_bytes.ensures.0
    (rw c.as_bytes.ensures.value at c.in_err-put_bytes.ensures))

pub returns : goal.returns
returns g c =
    writes_then _ _ _ c.put-2.result (34 ∷ []) (flat_map json_byte c.args.text.now ++ (34 ∷ [])) c.in_ok-put.ensures
    (writes_then _ _ _ c.put-2.result (flat_map json_byte c.args.text.now) (34 ∷ []) (rw c.as_bytes.ensures.value at c.in_ok-put_bytes.ensures) c.put-2.ensures)
