use Rattle.std.proofs.Common.{◌∷◌, map}
use Rattle.std.specs.List.{flat_map}
use Rattle.nvme_cells.specs.Rows.{json_object, named_of}
use Rattle.nvme_output.proofs.Writing.{fails_first, writes_then}
use Rattle.nvme_cells.proofs.field.put_object.Goals as goal

pub returns-in_err-put : goal.returns-in_err-put
returns-in_err-put g c =
    fails_first _ _ c.from_residual.result c.args.before.now (json_object (named_of c.args.first.now ∷ flat_map (λ part. map named_of part.now) c.args.parts.now))
    c.from_residual.ensures.0 (rw c.as_bytes.ensures.value at c.in_err-put.ensures)

pub returns : goal.returns
returns g c =
    writes_then _ _ _ c.put_braced.result c.args.before.now (json_object (named_of c.args.first.now ∷ flat_map (λ part. map named_of part.now) c.args.parts.now))
    (rw c.as_bytes.ensures.value at c.in_ok-put.ensures) c.put_braced.ensures
