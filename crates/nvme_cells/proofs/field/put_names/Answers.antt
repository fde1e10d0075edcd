use Rattle.std.proofs.Common.{◌∷◌, [], map}
use Rattle.std.specs.List.{flat_map}
use Rattle.nvme_cells.specs.Rows.{Named, commas, csv_names, named_of}
use Rattle.nvme_output.proofs.Writing.{fails_first, writes_then}
use Rattle.nvme_cells.proofs.field.put_names.Goals as goal

pub returns-in_err-put_joined : goal.returns-in_err-put_joined
unfolding csv_names
returns-in_err-put_joined g c =
    fails_first _ _ c.from_residual.result (commas (λ (field : Named). field.name) (named_of c.args.first.now ∷ flat_map (λ part. map named_of part.now) c.args.parts.now)) (10 ∷ [])
    c.from_residual.ensures.0 c.in_err-put_joined.ensures

pub returns : goal.returns
unfolding csv_names
returns g c =
    writes_then _ _ _ c.put.result (commas (λ (field : Named). field.name) (named_of c.args.first.now ∷ flat_map (λ part. map named_of part.now) c.args.parts.now)) (10 ∷ [])
    c.in_ok-put_joined.ensures c.put.ensures
