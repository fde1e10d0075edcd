use Rattle.nvme_channels.proofs.Bits.{lowest_is}
use Rattle.nvme_channels.proofs.marks.lowest.Goals as goal

pub returns-clause-some : goal.returns-clause-some
returns-clause-some c = lowest_is c.args.word c.ranges.word.fits
