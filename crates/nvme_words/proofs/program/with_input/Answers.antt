use Rattle.std.proofs.Common.{codes, refl}
use Rattle.nvme_words.specs.CommandLine.{mode, once}
use Rattle.nvme_words.proofs.program.with_input.Goals as goal

pub returns : goal.returns
returns c = λ app has.
    let one = c.with-program.ensures app once refl has c.once_command.ensures in
    let two = c.with-program-2.ensures _ (mode (codes "loaded")) refl one c.mode_command.ensures in
    c.with.ensures _ (mode (codes "live")) refl two c.mode_command-2.ensures
