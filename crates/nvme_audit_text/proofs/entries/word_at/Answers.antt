use Rattle.std.proofs.Common.{◌+◌, ◌∙◌, arith}
use Rattle.nvme_entry.proofs.Dwords.{bytes_at-between}
use Rattle.nvme_audit_text.proofs.entries.word_at.Goals as goal

pub returns : goal.returns
returns c = c.read_u16.ensures ∙ bytes_at-between 2 c.args.place (c.args.place + 2) c.args.bytes.now (omega arith)
