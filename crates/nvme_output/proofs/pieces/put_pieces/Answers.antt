use Rattle.std.proofs.Common.{rules}
use Rattle.nvme_output.specs.Pieces.{piece_text}
use Rattle.nvme_output.proofs.Items.{items_fail}
use Rattle.nvme_output.proofs.pieces.put_pieces.Goals as goal

pub returns-in_err-put_piece : goal.returns-in_err-put_piece
returns-in_err-put_piece g c =
    items_fail piece_text c.args.pieces.now c.loop-piece.piece-index _ _ _ _ c.from_residual.result c.from_residual.ensures.0
    (search rules) c.loop-piece.invariant c.in_err-put_piece.ensures
