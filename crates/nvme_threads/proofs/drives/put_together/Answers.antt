use Rattle.std.proofs.Common.{rules, refl}
use Rattle.nvme_threads.proofs.drives.put_together.Goals as goal

pub returns : goal.returns
returns g c =
    let crew = c.in-Ok.ensures in
    record { lanes = search rules; front = refl; feeders = refl; drainers = refl; workers = crew.workers; gates_of = crew.gates }
