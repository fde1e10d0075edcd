use Rattle.std.specs.Prelude.{Vec}
use Rattle.std.specs.Global.{Global}
use Rattle.nvme_threads.specs.declared.loaded_rings.SqEnds.{SqEnds}
use Rattle.nvme_runs.proofs.Rings.{loaded_rings}
use Rattle.nvme_runs.proofs.runs.setup.fed_rings.Goals as goal

pub returns-in-Loaded-clause-rings : goal.returns-in-Loaded-clause-rings
returns-in-Loaded-clause-rings g c = loaded_rings (λ (v : Vec SqEnds Global). v.items) c.args.plans.items c.in_ok-rings.rings.items c.load.result c.load.ensures.rings c.in_ok-rings.ensures
