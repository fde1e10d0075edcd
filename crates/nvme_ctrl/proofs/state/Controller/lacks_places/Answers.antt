use Rattle.std.proofs.Common.{ℕ, ◌+◌, ◌∙◌, ap}
use Rattle.std.specs.Prelude.{nat_lt}
use Rattle.nvme_log.specs.Completions.{outstanding}
use Rattle.nvme_log.specs.Limits.{max_outstanding}
use Rattle.nvme_ctrl_log.specs.Notes.{logged}
use Rattle.nvme_ctrl.proofs.PlacesNeeded.{lacks}
use Rattle.nvme_ctrl.proofs.state.Controller.lacks_places.Goals as goal

pub returns : goal.returns
returns c rules late notes s =
    ap (nat_lt max_outstanding) c.saturating_add.ensures
    ∙ lacks rules late notes c.args.self.now c.args.slots.now s c.needs.result
    ∙ ap (λ (n : ℕ). nat_lt max_outstanding (outstanding rules (logged notes) + n)) (c.needs.ensures rules late notes s)
