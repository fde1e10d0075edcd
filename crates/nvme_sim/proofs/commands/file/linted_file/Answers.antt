use Rattle.std.proofs.Common.{rules, ◌≡◌, IfSome}
use Rattle.nvme_short.specs.Expansion.{StandsFor}
use Rattle.nvme_sim.specs.Inputs.{HasNoWarning, HasWarnings}
use Rattle.nvme_sim.proofs.Inputs.{of_file, err_of_file, failed_of_file}
use Rattle.nvme_sim.proofs.commands.file.linted_file.Goals as goal

pub returns-clause-warned : goal.returns-clause-warned
returns-clause-warned g c =
    let text = c.as_slice.result.now in
    let stands : IfSome (g.R.Read.remaining c.args.input) (λ bytes. StandsFor bytes text) = search rules in
    λ is. of_file (g.R.Read.remaining c.args.input) text HasWarnings stands (c.linted.ensures.warned is)

pub returns-clause-none : goal.returns-clause-none
returns-clause-none g c =
    let text = c.as_slice.result.now in
    let stands : IfSome (g.R.Read.remaining c.args.input) (λ bytes. StandsFor bytes text) = search rules in
    λ is. of_file (g.R.Read.remaining c.args.input) text HasNoWarning stands (c.linted.ensures.none is)

pub returns-clause-input : goal.returns-clause-input
returns-clause-input g c =
    let text = c.as_slice.result.now in
    let stands : IfSome (g.R.Read.remaining c.args.input) (λ bytes. StandsFor bytes text) = search rules in
    err_of_file c.linted.result (g.R.Read.remaining c.args.input) text stands c.linted.ensures.input

pub returns-clause-failed : goal.returns-clause-failed
returns-clause-failed g c =
    let text = c.as_slice.result.now in
    let stands : IfSome (g.R.Read.remaining c.args.input) (λ bytes. StandsFor bytes text) = search rules in
    failed_of_file c.linted.result (c.linted.new.output ≡ c.args.output.now) (g.R.Read.remaining c.args.input) text HasWarnings stands c.linted.ensures.failed
