-- What a fault of an entry says of its text.
use Rattle.std.proofs.Common.{Some, refl}
use Rattle.nvme_sim.proofs.Inputs.{bad_entry}
use Rattle.nvme_sim.proofs.commands.entry.line_of.Goals as goal

pub returns-in-Err-clause-input : goal.returns-in-Err-clause-input
returns-in-Err-clause-input c = λ one.
    bad_entry (Some c.args.text.now) c.args.text.now c.in-Err.error refl c.in-Err.ensures.length c.in-Err.ensures.digit
