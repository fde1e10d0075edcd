use Rattle.std.proofs.Common.{◌∷◌, []}
use Rattle.nvme_cells.specs.Rows.{named_of}
use Rattle.nvme_cells.specs.inside.Forms.{form_text}
use Rattle.nvme_output.proofs.Writing.{fails_first, writes_then}
use Rattle.nvme_cells.proofs.field.put_next.Goals as goal

pub returns-in_err-put : goal.returns-in_err-put
returns-in_err-put g c = fails_first _ _ c.from_residual.result (44 ∷ []) (form_text c.args.form (named_of c.args.field.now)) c.from_residual.ensures.0 c.in_err-put.ensures

pub returns : goal.returns
returns g c = writes_then _ _ _ c.put_one.result (44 ∷ []) (form_text c.args.form (named_of c.args.field.now)) c.in_ok-put.ensures c.put_one.ensures
