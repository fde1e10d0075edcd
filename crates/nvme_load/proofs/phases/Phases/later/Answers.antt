use Rattle.std.proofs.Common.{◌≡◌, ◌+◌, rules}
use Rattle.nvme_load.specs.Phases.{on_before, when_on}
use Rattle.nvme_load.specs.Times.{fitting}
use Rattle.nvme_load.proofs.Cycles.{forward}
use Rattle.nvme_load.proofs.phases.Phases.later.Goals as goal

pub returns-clause-forward : goal.returns-clause-forward
returns-clause-forward c =
    let on = c.args.self.now.on in
    let off = c.args.self.now.off in
    let value : c.when_on.result ≡ fitting (when_on on off (on_before on off c.args.time + c.args.gap)) = search rules in
    rw value (forward on off c.args.time c.args.gap c.args.self.now.some)
