use Rattle.std.proofs.Common.{arith}
use Rattle.nvme_entry.proofs.Dwords.{dwords_are}
use Rattle.nvme_entry.proofs.completion.bytes_of.Goals as goal

pub returns : goal.returns
returns c =
    let each = dwords_are c.args.dw0 c.args.dw1 c.args.dw2 c.args.dw3 c.write_u32_into.new.dst (omega arith) (omega arith) (omega arith)
    (omega arith) c.write_u32_into.ensures in
    record { dw0 = each.0; dw1 = each.1; dw2 = each.2; dw3 = each.3 }
