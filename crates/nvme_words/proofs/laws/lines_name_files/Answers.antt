-- Each line is computed.
use Rattle.std.proofs.Common.{Some, None, codes, refl}
use Rattle.clap.proofs.OnLiterals.{clap_on_literals}
use Rattle.nvme_words.proofs.Lines.{line_names}
use Rattle.nvme_words.proofs.laws.lines_name_files.Goals as goal

pub returns-clause-run : goal.returns-clause-run
unfolding clap_on_literals
returns-clause-run c = line_names (codes "run") _ (Some (codes "a.toml")) (λ p q r. refl)

pub returns-clause-lint : goal.returns-clause-lint
unfolding clap_on_literals
returns-clause-lint c = line_names (codes "lint") _ (Some (codes "lint")) (λ p q r. refl)

pub returns-clause-check : goal.returns-clause-check
unfolding clap_on_literals
returns-clause-check c = line_names (codes "check") _ (Some (codes "a.json")) (λ p q r. refl)

pub returns-clause-stats : goal.returns-clause-stats
unfolding clap_on_literals
returns-clause-stats c = line_names (codes "stats") _ (Some (codes "a.json")) (λ p q r. refl)

pub returns-clause-dash : goal.returns-clause-dash
unfolding clap_on_literals
returns-clause-dash c = line_names (codes "lint") _ None (λ p q r. refl)

pub returns-clause-none_given : goal.returns-clause-none_given
unfolding clap_on_literals
returns-clause-none_given c = line_names (codes "chart") _ None (λ p q r. refl)

pub returns-clause-no_option : goal.returns-clause-no_option
unfolding clap_on_literals
returns-clause-no_option c = line_names (codes "loaded") _ None (λ p q r. refl)

pub returns-clause-refused : goal.returns-clause-refused
unfolding clap_on_literals
returns-clause-refused c = line_names (codes "run") _ None (λ p q r. refl)
