use Rattle.std.proofs.Common.{arith}
use Rattle.nvme_arbiter.proofs.MaskLemmas.{is-lowest}
use Rattle.nvme_arbiter.proofs.bits.lowest.Goals as goal

pub returns-else-mask-eq0 : goal.returns-else-mask-eq0
returns-else-mask-eq0 c = is-lowest c.args.mask (omega arith) c.ranges.mask.fits
