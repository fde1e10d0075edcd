use Rattle.std.specs.Int.{w64}
use Rattle.std.proofs.lemmas.Nat.Bits.{bit_at_clear_other, bit_at_clear_same, bit_at_set_other, bit_at_set_same}
use Rattle.nvme_channels.proofs.marks.with_bit.Goals as goal

pub returns-then-on : goal.returns-then-on
returns-then-on c = rw c.if-on.true (record {
  this = bit_at_set_same w64 c.args.word c.args.bit c.requires;
  others = λ i l ne. bit_at_set_other w64 c.args.word c.args.bit c.requires i ne;
})

pub returns-else-on : goal.returns-else-on
returns-else-on c = rw c.if-on.false (record {
  this = bit_at_clear_same w64 c.args.word c.args.bit c.requires;
  others = λ i l ne. bit_at_clear_other w64 c.args.word c.args.bit c.requires i l ne;
})
