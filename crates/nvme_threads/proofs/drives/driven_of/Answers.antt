use Rattle.std.proofs.Common.{rules, refl, sym}
use Rattle.nvme_threads.proofs.drives.driven_of.Goals as goal

pub returns : goal.returns
returns g c =
    let crew = c.in-Ok.ensures in
    record { lanes = search rules; front = refl; feeders = refl; drainers = refl; workers = sym crew.workers; gates_of = sym crew.gates }
