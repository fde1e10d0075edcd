use Rattle.std.proofs.Common.{refl}
use Rattle.nvme_words.specs.CommandLine.{audit, chart, check, stats}
use Rattle.nvme_words.proofs.program.with_trace.Goals as goal

pub returns : goal.returns
returns c = λ app has.
    let one = c.with-program.ensures app check refl has c.check_command.ensures in
    let two = c.with-program-2.ensures _ (stats c.args.formats) refl one c.stats_command.ensures in
    let three = c.with-program-3.ensures _ chart refl two c.chart_command.ensures in
    c.with.ensures _ audit refl three c.audit_command.ensures
