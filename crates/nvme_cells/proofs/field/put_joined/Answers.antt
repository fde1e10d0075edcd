use Rattle.std.proofs.Common.{◌∷◌}
use Rattle.std.specs.List.{flat_map}
use Rattle.nvme_cells.proofs.Turns.{flat_map_parts}
use Rattle.nvme_cells.specs.Rows.{named_of}
use Rattle.nvme_cells.specs.inside.Forms.{form_behind, form_text}
use Rattle.nvme_output.proofs.Writing.{fails_first, writes_then}
use Rattle.nvme_cells.proofs.field.put_joined.Goals as goal

pub returns-in_err-put_one : goal.returns-in_err-put_one
returns-in_err-put_one g c =
    rw (flat_map_parts (λ other. 44 ∷ form_text c.args.form other) named_of (λ part. part.now) c.args.parts.now) (fails_first _ _ c.from_residual.result (form_text c.args.form (named_of c.args.first.now))
    (flat_map (λ part. flat_map (form_behind c.args.form) part.now) c.args.parts.now) c.from_residual.ensures.0 c.in_err-put_one.ensures)

pub returns : goal.returns
returns g c =
    rw (flat_map_parts (λ other. 44 ∷ form_text c.args.form other) named_of (λ part. part.now) c.args.parts.now) (writes_then _ _ _ c.put_parts.result (form_text c.args.form (named_of c.args.first.now))
    (flat_map (λ part. flat_map (form_behind c.args.form) part.now) c.args.parts.now) c.in_ok-put_one.ensures c.put_parts.ensures)
