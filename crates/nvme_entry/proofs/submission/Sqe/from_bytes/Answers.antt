use Rattle.std.proofs.Common.{◌∙◌, rules}
use Rattle.nvme_entry.proofs.Dwords.{bytes_at-range}
use Rattle.nvme_entry.proofs.submission.Sqe.from_bytes.Goals as goal

pub returns : goal.returns
returns c = record {
  layout = record {
    whole = search rules;
    opcode = search rules;
    flags = search rules;
    cid = c.read_u16.ensures ∙ bytes_at-range 2 2 c.args.bytes.now;
    nsid = c.read_u32.ensures ∙ bytes_at-range 4 4 c.args.bytes.now;
    cdw2 = c.read_u32-2.ensures ∙ bytes_at-range 4 8 c.args.bytes.now;
    cdw3 = c.read_u32-3.ensures ∙ bytes_at-range 4 12 c.args.bytes.now;
    mptr = c.read_u64.ensures ∙ bytes_at-range 8 16 c.args.bytes.now;
    prp1 = c.read_u64-2.ensures ∙ bytes_at-range 8 24 c.args.bytes.now;
    prp2 = c.read_u64-3.ensures ∙ bytes_at-range 8 32 c.args.bytes.now;
    cdw10 = c.read_u32-4.ensures ∙ bytes_at-range 4 40 c.args.bytes.now;
    cdw11 = c.read_u32-5.ensures ∙ bytes_at-range 4 44 c.args.bytes.now;
    cdw12 = c.read_u32-6.ensures ∙ bytes_at-range 4 48 c.args.bytes.now;
    cdw13 = c.read_u32-7.ensures ∙ bytes_at-range 4 52 c.args.bytes.now;
    cdw14 = c.read_u32-8.ensures ∙ bytes_at-range 4 56 c.args.bytes.now;
    cdw15 = c.read_u32-9.ensures ∙ bytes_at-range 4 60 c.args.bytes.now;
  };
}
