use Rattle.std.proofs.Common.{arith, rules}
use Rattle.nvme_lines.proofs.LineLemmas.{takes_byte}
use Rattle.nvme_lines.proofs.lines.Lines.take.Goals as goal

pub returns : goal.returns
returns g c =
    let self = c.args.self.now in
    takes_byte (g.R.Read.remaining self.reader) self.chunk self.start self.end _ c.requires (omega (arith, self.within)) (search rules)
