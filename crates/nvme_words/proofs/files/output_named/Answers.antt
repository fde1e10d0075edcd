use Rattle.std.proofs.Common.{rules, ◌≢◌, ◌∙◌, codes, ⊎_elim, refl, sym, ap, subst}
use Rattle.clap.specs.Words.{IsAmong, kind_of}
use Rattle.clap.specs.declared.error.kind.ErrorKind.TheVariants.{OutOfMemory}
use Rattle.nvme_words.specs.CommandLine.{command_line}
use Rattle.nvme_words.specs.Requests.{faults_of, value_given}
use Rattle.nvme_words.proofs.Answering.{free, given_in, same_faults, some_names}
use Rattle.nvme_words.proofs.Naming.{no_output_of_others, no_output_of_refused, output_of_taken}
use Rattle.nvme_words.proofs.files.output_named.Goals as goal

pub returns-then-not-writes_file-clause-named : goal.returns-then-not-writes_file-clause-named
returns-then-not-writes_file-clause-named c = (some_names, refl, no_output_of_others (command_line some_names) c.args.words.now (search rules))

pub returns-in-Ok-clause-named : goal.returns-in-Ok-clause-named
returns-in-Ok-clause-named c =
    let line = c.in_ok-program.ensures in
    let words = c.args.words.now in
    let faults = same_faults _ line.0 line.2 words in
    let none = sym faults ∙ c.in-Ok.ensures.kinds (free _ line.0 line.2 words) in
    let given = given_in _ line.0 line.2 words _ c.in-Ok.ensures.matches in
    (line.0, line.1, c.value_in.ensures ∙ (ap (value_given (codes "output")) given ∙ sym (output_of_taken (command_line line.0) words (search rules) none)))

pub returns-clause-named : goal.returns-clause-named
returns-clause-named c =
    let line = c.in_ok-program.ensures in
    let words = c.args.words.now in
    let faults = same_faults _ line.0 line.2 words in
    let other : kind_of c.in-Err-2.field-0 ≢ OutOfMemory = search rules in
    let kinds = c.in-Err-2.ensures.kinds (free _ line.0 line.2 words) in
    let among : IsAmong (kind_of c.in-Err-2.field-0) (faults_of (command_line line.0) words) =
    ⊎_elim (λ h. absurd (other h)) (λ h. subst (IsAmong _) faults h) kinds in
    (line.0, line.1, no_output_of_refused (command_line line.0) words (kind_of c.in-Err-2.field-0) among)
