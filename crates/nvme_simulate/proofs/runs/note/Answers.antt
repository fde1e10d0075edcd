use Rattle.std.proofs.Common.{OnOk, subst, sym}
use Rattle.std.proofs.lemmas.Result.{on_ok_weaker}
use Rattle.nvme_simulation.specs.declared.happening.Happening.{Happening}
use Rattle.nvme_simulate.specs.Played.{Takes}
use Rattle.nvme_simulate.proofs.runs.note.Goals as goal

pub returns-after-bounds-2 : goal.returns-after-bounds-2
returns-after-bounds-2 g c =
    subst (λ (h : Happening). OnOk c.count.result (Takes c.args.simulation.now h c.args.numbers.now c.count.new.numbers)) (sym c.in-Finished.is)
    (on_ok_weaker c.count.result (λ added. (c.end.new.self, (c.end.ensures, added))) c.count.ensures)
