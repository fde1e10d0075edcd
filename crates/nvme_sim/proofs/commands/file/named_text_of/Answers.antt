-- A short file with faults is a file at fault.
use Rattle.std.proofs.Common.{rules, ◌≡◌, IfSome}
use Rattle.nvme_sim.proofs.Inputs.{short_is_bad}
use Rattle.nvme_sim.proofs.commands.file.named_text_of.Goals as goal

pub returns-in-Err-Faults-clause-input : goal.returns-in-Err-Faults-clause-input
returns-in-Err-Faults-clause-input g c =
    let text = c.in_ok-bytes.bytes.items in
    let whole : IfSome (g.R.Read.remaining c.args.input) (λ rest. text ≡ rest) = search rules in
    λ one. short_is_bad (g.R.Read.remaining c.args.input) text c.in-Err-Faults.faults whole (rw c.in-Err-Faults.field-0-is at c.in-Err-Faults.ensures.fault)
