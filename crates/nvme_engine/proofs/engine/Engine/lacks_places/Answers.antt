use Rattle.std.proofs.Common.{◌≡◌, ℕ, ◌+◌, [], ap, ◌∙◌}
use Rattle.std.specs.Prelude.{nat_lt}
use Rattle.nvme_log.specs.Aborts.{places_for}
use Rattle.nvme_log.specs.Limits.{max_outstanding}
use Rattle.nvme_ctrl_log.specs.Notes.{logged}
use Rattle.nvme_engine.proofs.NextPicks.{stands_with, same_outstanding}
use Rattle.nvme_engine.proofs.engine.Engine.lacks_places.Goals as goal

pub returns : goal.returns
returns c rules late notes s =
    let self = c.args.self.now in
    c.lacks_places.ensures s.their s.their_late notes (stands_with rules late notes [] self s c.as_slice.result.now c.as_slice.ensures.value)
    ∙ ap (λ (n : ℕ). nat_lt max_outstanding (n + places_for (logged notes) c.args.pick)) (same_outstanding rules late notes [] self s)
