use Rattle.std.proofs.Common.{refl}
use Rattle.nvme_words.specs.CommandLine.{expand, lint}
use Rattle.nvme_words.proofs.program.with_file.Goals as goal

pub returns : goal.returns
returns c = λ app has.
    let one = c.with-program.ensures app lint refl has c.lint_command.ensures in
    c.with.ensures _ expand refl one c.expand_command.ensures
