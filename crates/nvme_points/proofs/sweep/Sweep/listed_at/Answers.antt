use Rattle.nvme_points.proofs.Standing.{answered}
use Rattle.nvme_points.proofs.sweep.Sweep.listed_at.Goals as goal

pub returns-in-Ok : goal.returns-in-Ok
returns-in-Ok c = answered c.with_lists.result (λ model lists. (c.in-Ok.model, c.in-Ok.ensures, lists)) c.with_lists.ensures
