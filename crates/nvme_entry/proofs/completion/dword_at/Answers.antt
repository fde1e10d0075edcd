use Rattle.std.proofs.Common.{◌+◌, ◌*◌, ◌∙◌, arith}
use Rattle.nvme_entry.proofs.Dwords.{bytes_at-between}
use Rattle.nvme_entry.proofs.completion.dword_at.Goals as goal

pub returns : goal.returns
returns c = c.read_u32.ensures ∙ bytes_at-between 4 (4 * c.args.n) (4 * c.args.n + 4) c.args.bytes.now (omega arith)
