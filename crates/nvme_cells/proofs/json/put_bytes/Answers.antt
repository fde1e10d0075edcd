use Rattle.std.proofs.Common.{rules}
use Rattle.nvme_output.proofs.Items.{items_fail}
use Rattle.nvme_cells.specs.Strings.{json_byte}
use Rattle.nvme_cells.proofs.json.put_bytes.Goals as goal

pub returns-in_err-put_byte : goal.returns-in_err-put_byte
returns-in_err-put_byte g c =
    items_fail json_byte c.args.bytes.now c.loop-byte.byte-index 0 _ _ _ c.from_residual.result c.from_residual.ensures.0
    (search rules) c.loop-byte.invariant (search rules)
