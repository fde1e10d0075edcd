use Rattle.std.proofs.Common.{rules, ◌≡◌, ◌==◌, false, length, inr, IfSome}
use Rattle.nvme_sim.proofs.Inputs.{has_warnings}
use Rattle.nvme_sim.proofs.commands.lint.linted.Goals as goal

pub returns-clause-failed : goal.returns-clause-failed
returns-clause-failed g c =
    let text = c.as_slice.result.now in
    let whole : IfSome (g.R.Read.remaining c.args.input) (λ rest. text ≡ rest) = search rules in
    let some : (length c.in_ok-warnings.warnings.items == 0) ≡ false = search rules in
    inr (has_warnings (g.R.Read.remaining c.args.input) text c.in_ok-warnings.warnings.items whole c.in_ok-warnings.ensures.warnings some)
