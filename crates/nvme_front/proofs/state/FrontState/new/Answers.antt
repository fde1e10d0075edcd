use Rattle.std.proofs.Common.{refl}
use Rattle.nvme_front.proofs.Newly.{are_fresh_jobs, consistent_new}
use Rattle.nvme_front.proofs.state.FrontState.new.Goals as goal

pub returns-clause-consistent : goal.returns-clause-consistent
returns-clause-consistent c =
    consistent_new _ c.new-2.ensures.items c.new-3.ensures.items c.new-5.ensures.items (are_fresh_jobs _ c.args.seat c.new-4.ensures) refl c.new.ensures
