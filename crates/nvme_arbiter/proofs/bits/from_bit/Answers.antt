use Rattle.nvme_arbiter.proofs.MaskLemmas.{keeps-from}
use Rattle.nvme_arbiter.proofs.bits.from_bit.Goals as goal

pub returns-else-bit-ge64 : goal.returns-else-bit-ge64
returns-else-bit-ge64 c = keeps-from c.args.mask c.args.bit c.ranges.mask.fits
