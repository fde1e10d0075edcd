use Rattle.std.proofs.Common.{◌∙◌, [], sym, subst}
use Rattle.nvme_simulate.specs.Played.{EndsIn}
use Rattle.nvme_simulate.proofs.Played.{done_at_end, gone_on, no_step, over_is}
use Rattle.nvme_simulate.proofs.runs.run.Goals as goal

pub loop-init : goal.loop-init
loop-init g c = record { stands = c.requires.stands; goes = ([], no_step _ _) }

pub loop-preserved : goal.loop-preserved
loop-preserved g c =
    let gone = gone_on c.loop.invariant.goes.0 _ _ _ _ _ _ _ _ _ c.loop.invariant.goes.1 c.in_ok-happening.ensures.steps c.in_ok-happening.ensures.takes c.done_behind-end.ensures in
    record { stands = c.step.ensures.stands; goes = (gone.0, gone.1.0) }

pub returns-then-is_over : goal.returns-then-is_over
returns-then-is_over g c =
    let over = over_is _ (sym c.is_over.ensures ∙ c.if-is_over.true) in
    let gone = gone_on c.loop.invariant.goes.0 _ _ _ _ _ _ _ _ _ c.loop.invariant.goes.1 c.in_ok-happening.ensures.steps c.in_ok-happening.ensures.takes (done_at_end _ _ over) in
    record { steps = gone.0; goes = gone.1.0; over = subst (λ h. EndsIn h gone.0) over gone.1.1 }
