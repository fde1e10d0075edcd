use Rattle.std.proofs.Common.{◌∷◌, [], map}
use Rattle.std.specs.List.{flat_map}
use Rattle.nvme_cells.specs.Rows.{json_members, json_object, named_of}
use Rattle.nvme_output.proofs.Writing.{fails_first, writes_then}
use Rattle.nvme_cells.proofs.field.put_braced.Goals as goal

pub returns-in_err-put_members : goal.returns-in_err-put_members
unfolding json_object
returns-in_err-put_members g c =
    fails_first _ _ c.from_residual.result (123 ∷ json_members (named_of c.args.first.now ∷ flat_map (λ part. map named_of part.now) c.args.parts.now)) (125 ∷ [])
    c.from_residual.ensures.0 c.in_err-put_members.ensures

pub returns : goal.returns
unfolding json_object
returns g c =
    writes_then _ _ _ c.put.result (123 ∷ json_members (named_of c.args.first.now ∷ flat_map (λ part. map named_of part.now) c.args.parts.now)) (125 ∷ [])
    c.in_ok-put_members.ensures c.put.ensures
