use Rattle.std.proofs.Common.{inl, inr, refl}
use Rattle.nvme_front.proofs.EndsSeen.{GoesOn-refl, GoesOn-trans}
use Rattle.nvme_threads.proofs.LoadedTurns.{stays-refl, stays-trans}
use Rattle.nvme_threads.proofs.Turned.{told-later, told-later_at}
use Rattle.nvme_threads.proofs.turns.serve.Goals as goal

pub returns-in-Err-clause-fault : goal.returns-in-Err-clause-fault
returns-in-Err-clause-fault g c =
    let inv = c.loop.invariant in
    told-later c.args.front.now c.loop.front c.in-Err.error inv.goes_on inv.stood c.in-Err.ensures.fault

pub returns-in-Err-clause-fault_at : goal.returns-in-Err-clause-fault_at
returns-in-Err-clause-fault_at g c =
    let inv = c.loop.invariant in
    told-later_at c.args.front.now c.loop.front _ c.in-Err.error inv.goes_on inv.stood c.in-Err.ensures.fault_at

pub returns-in-Err-clause-goes_on : goal.returns-in-Err-clause-goes_on
returns-in-Err-clause-goes_on g c = GoesOn-trans _ _ _ c.loop.invariant.goes_on c.turn.ensures.goes_on

pub returns-in-Ok-true-clause-goes_on : goal.returns-in-Ok-true-clause-goes_on
returns-in-Ok-true-clause-goes_on g c = GoesOn-trans _ _ _ c.loop.invariant.goes_on c.turn.ensures.goes_on

pub loop-preserved : goal.loop-preserved
loop-preserved g c = record { goes_on = GoesOn-trans _ _ _ c.loop.invariant.goes_on c.turn.ensures.goes_on; stood = inr c.turn.ensures.accounts; loaded = stays-trans _ _ _ c.turn.ensures.goes_on c.loop.invariant.loaded c.turn.ensures.loaded }

pub loop-init : goal.loop-init
loop-init g c = record { goes_on = GoesOn-refl _; stood = inl refl; loaded = stays-refl _ }

pub returns-in-Err-clause-loaded : goal.returns-in-Err-clause-loaded
returns-in-Err-clause-loaded g c = stays-trans _ _ _ c.turn.ensures.goes_on c.loop.invariant.loaded c.turn.ensures.loaded

pub returns-in-Ok-true-clause-loaded : goal.returns-in-Ok-true-clause-loaded
returns-in-Ok-true-clause-loaded g c = stays-trans _ _ _ c.turn.ensures.goes_on c.loop.invariant.loaded c.turn.ensures.loaded
