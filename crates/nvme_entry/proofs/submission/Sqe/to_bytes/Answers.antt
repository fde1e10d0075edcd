use Rattle.std.proofs.Common.{arith}
use Rattle.nvme_entry.proofs.Dwords.{laid_out}
use Rattle.nvme_entry.proofs.submission.Sqe.to_bytes.Goals as goal

pub returns : goal.returns
returns c = record {
  layout = laid_out c.args.self.now c.write_u32_into.new.dst _ _ _ _ _ _ _ (omega arith) (omega arith) (omega arith) (omega arith)
      c.low_half.ensures c.high_half.ensures c.low_half-2.ensures c.high_half-2.ensures c.low_half-3.ensures c.high_half-3.ensures
      (omega arith) (omega arith) (omega arith) (omega arith) (omega arith) (omega arith) (omega arith) (omega arith) (omega arith)
      (omega arith) (omega arith) (omega arith) c.write_u32_into.ensures;
}
