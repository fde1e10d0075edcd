use Rattle.std.proofs.Common.{◌∙◌, arith}
use Rattle.nvme_channels.specs.inside.Marks.{marks_of}
use Rattle.nvme_channels.proofs.Bits.{idle_in_all}
use Rattle.nvme_channels.proofs.channels.Channels.idle_in.Goals as goal

pub returns-then-reach-len-clause-value : goal.returns-then-reach-len-clause-value
returns-then-reach-len-clause-value c =
    let self = c.args.self.now in
    c.first.ensures ∙ idle_in_all self.channels.items c.args.reach (marks_of self.idle) c.if-reach-eq0.true (omega arith) self.marked
