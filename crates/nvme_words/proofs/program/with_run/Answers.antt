use Rattle.std.proofs.Common.{refl}
use Rattle.nvme_words.specs.CommandLine.{reported, simulate, traced}
use Rattle.nvme_words.proofs.program.with_run.Goals as goal

pub returns : goal.returns
returns c = λ app has.
    let one = c.with-program.ensures app reported refl has c.reported_command.ensures in
    let two = c.with-program-2.ensures _ traced refl one c.traced_command.ensures in
    c.with.ensures _ (simulate c.args.formats) refl two c.simulate_command.ensures
