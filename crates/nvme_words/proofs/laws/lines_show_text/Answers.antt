-- Each line is computed.
use Rattle.std.proofs.Common.{codes, refl, inl, inr}
use Rattle.clap.proofs.OnLiterals.{clap_on_literals}
use Rattle.nvme_words.specs.Examples.{alone}
use Rattle.clap.specs.declared.error.kind.ErrorKind.TheVariants as kind
use Rattle.nvme_words.proofs.Lines.{line_fault, line_refuses, line_shows}
use Rattle.nvme_words.proofs.laws.lines_show_text.Goals as goal

pub returns-clause-help : goal.returns-clause-help
unfolding clap_on_literals
returns-clause-help c =
    line_shows (codes "--help") kind.DisplayHelp (inl refl) refl (line_fault (alone (codes "--help")) kind.DisplayHelp (λ p q r. refl))

pub returns-clause-version : goal.returns-clause-version
unfolding clap_on_literals
returns-clause-version c =
    line_shows (codes "--version") kind.DisplayVersion (inr refl) refl (line_fault (alone (codes "--version")) kind.DisplayVersion (λ p q r. refl))

pub returns-clause-no_file : goal.returns-clause-no_file
unfolding clap_on_literals
returns-clause-no_file c =
    line_refuses (alone (codes "run")) kind.MissingRequiredArgument (λ e. cc) (λ e. cc)
    (line_fault (alone (codes "run")) kind.MissingRequiredArgument (λ p q r. refl))
