use Rattle.std.proofs.Common.{inl, inr}
use Rattle.nvme_front.proofs.Picking.{lacks_admin}
use Rattle.nvme_front.proofs.state.FrontState.pick_next.Goals as goal

pub returns-then-pick-eq0-clause-full : goal.returns-then-pick-eq0-clause-full
returns-then-pick-eq0-clause-full c = λ e.
    let full = c.pick_admin.ensures.full e in
    inr (full.0, lacks_admin c.args.self.now c.args.pick c.requires.next c.if-pick-eq0.true c.requires.places (rw (← full.0.config, ← full.0.log) full.1))

pub returns-else-pick-eq0-clause-full : goal.returns-else-pick-eq0-clause-full
returns-else-pick-eq0-clause-full c = λ e. inl (c.pick_io.ensures.full e)
