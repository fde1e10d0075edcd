-- Each line is computed.
use Rattle.std.proofs.Common.{[], codes, refl}
use Rattle.clap.proofs.OnLiterals.{clap_on_literals}
use Rattle.nvme_words.specs.Examples.{alone, chart_from_0, live_0, loaded_9, once_none, once_too_many, run_two_files, stats_output, stats_xml}
use Rattle.clap.specs.declared.error.kind.ErrorKind.TheVariants as kind
use Rattle.nvme_words.proofs.Lines.{line_fault}
use Rattle.nvme_words.proofs.laws.lines_have_faults.Goals as goal

pub returns-clause-no_word : goal.returns-clause-no_word
unfolding clap_on_literals
returns-clause-no_word c = line_fault [] kind.MissingSubcommand (λ p q r. refl)

pub returns-clause-no_file : goal.returns-clause-no_file
unfolding clap_on_literals
returns-clause-no_file c = line_fault (alone (codes "lint")) kind.MissingRequiredArgument (λ p q r. refl)

pub returns-clause-no_blocks : goal.returns-clause-no_blocks
unfolding clap_on_literals
returns-clause-no_blocks c = line_fault (alone (codes "once")) kind.MissingRequiredArgument (λ p q r. refl)

pub returns-clause-no_workers : goal.returns-clause-no_workers
unfolding clap_on_literals
returns-clause-no_workers c = line_fault (alone (codes "live")) kind.MissingRequiredArgument (λ p q r. refl)

pub returns-clause-blocks : goal.returns-clause-blocks
unfolding clap_on_literals
returns-clause-blocks c = line_fault once_too_many kind.ValueValidation (λ p q r. refl)

pub returns-clause-workers : goal.returns-clause-workers
unfolding clap_on_literals
returns-clause-workers c = line_fault loaded_9 kind.ValueValidation (λ p q r. refl)

pub returns-clause-two_files : goal.returns-clause-two_files
unfolding clap_on_literals
returns-clause-two_files c = line_fault run_two_files kind.UnknownArgument (λ p q r. refl)

pub returns-clause-format : goal.returns-clause-format
unfolding clap_on_literals
returns-clause-format c = line_fault stats_xml kind.InvalidValue (λ p q r. refl)

pub returns-clause-no_block : goal.returns-clause-no_block
unfolding clap_on_literals
returns-clause-no_block c = line_fault once_none kind.ValueValidation (λ p q r. refl)

pub returns-clause-no_worker : goal.returns-clause-no_worker
unfolding clap_on_literals
returns-clause-no_worker c = line_fault live_0 kind.ValueValidation (λ p q r. refl)

pub returns-clause-first_pick : goal.returns-clause-first_pick
unfolding clap_on_literals
returns-clause-first_pick c = line_fault chart_from_0 kind.ValueValidation (λ p q r. refl)

pub returns-clause-other_output : goal.returns-clause-other_output
unfolding clap_on_literals
returns-clause-other_output c = line_fault stats_output kind.UnknownArgument (λ p q r. refl)
