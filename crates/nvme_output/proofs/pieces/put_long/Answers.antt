use Rattle.std.proofs.Common.{◌∷◌, []}
use Rattle.std.specs.List.{flat_map}
use Rattle.nvme_output.specs.Pieces.{piece_text}
use Rattle.nvme_output.proofs.Writing.{fails_first, writes_then}
use Rattle.nvme_output.proofs.pieces.put_long.Goals as goal

pub returns-in_err-put_pieces : goal.returns-in_err-put_pieces
returns-in_err-put_pieces g c =
    fails_first _ _ c.from_residual.result (flat_map piece_text c.args.pieces.now) (10 ∷ []) c.from_residual.ensures.0 c.in_err-put_pieces.ensures

pub returns : goal.returns
returns g c =
    writes_then _ _ _ c.put.result (flat_map piece_text c.args.pieces.now) (10 ∷ []) c.in_ok-put_pieces.ensures c.put.ensures
