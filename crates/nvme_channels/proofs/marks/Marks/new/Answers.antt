use Rattle.std.proofs.Common.{arith}
use Rattle.nvme_channels.proofs.Bits.{all_marked}
use Rattle.nvme_channels.proofs.marks.Marks.new.Goals as goal

pub returns : goal.returns
returns c =
    let items = c.in_ok-words.ensures.items_if_clones_equal (λ y e. e) in
    rw items (all_marked c.args.count c.div_ceil.result (omega arith))
