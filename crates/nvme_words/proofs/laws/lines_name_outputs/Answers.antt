-- Each line is computed.
use Rattle.std.proofs.Common.{Some, None, codes, refl}
use Rattle.clap.proofs.OnLiterals.{clap_on_literals}
use Rattle.nvme_words.proofs.Lines.{line_names, line_outputs}
use Rattle.nvme_words.proofs.laws.lines_name_outputs.Goals as goal

pub returns-clause-given : goal.returns-clause-given
unfolding clap_on_literals
returns-clause-given c = line_outputs (codes "chart") _ (Some (codes "a.svg")) (λ p q r. refl)

pub returns-clause-dash : goal.returns-clause-dash
unfolding clap_on_literals
returns-clause-dash c = line_outputs (codes "chart") _ None (λ p q r. refl)

pub returns-clause-none_given : goal.returns-clause-none_given
unfolding clap_on_literals
returns-clause-none_given c = line_outputs (codes "chart") _ None (λ p q r. refl)

pub returns-clause-no_picture : goal.returns-clause-no_picture
unfolding clap_on_literals
returns-clause-no_picture c = line_outputs (codes "stats") _ None (λ p q r. refl)

pub returns-clause-traced : goal.returns-clause-traced
unfolding clap_on_literals
returns-clause-traced c = line_outputs (codes "trace") _ (Some (codes "a.jsonl")) (λ p q r. refl)

pub returns-clause-input : goal.returns-clause-input
unfolding clap_on_literals
returns-clause-input c = line_names (codes "chart") _ (Some (codes "a.json")) (λ p q r. refl)
