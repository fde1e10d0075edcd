use Rattle.std.proofs.Common.{◌+◌, ◌∙◌, arith}
use Rattle.nvme_entry.proofs.Dwords.{bytes_at-between}
use Rattle.nvme_audit_text.proofs.entries.dword_at.Goals as goal

pub returns : goal.returns
returns c = c.read_u32.ensures ∙ bytes_at-between 4 c.args.place (c.args.place + 4) c.args.bytes.now (omega arith)
