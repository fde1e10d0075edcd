use Rattle.nvme_pool.proofs.Running.{ran_step}
use Rattle.nvme_threads.proofs.crew.work.Goals as goal
use Rattle.nvme_threads.proofs.crew.work.Goals.{in-None, in-Some+in-Held+then-is_over}

pub loop-preserved-in-Did : goal.loop-preserved-in-Did
loop-preserved-in-Did g c = ran_step _ _ _ _ _ _ _ _ c.loop.invariant c.step.ensures.same c.step.ensures.steps

pub loop-preserved : goal.loop-preserved
loop-preserved g c = ran_step _ _ _ _ _ _ _ _ c.loop.invariant c.step.ensures.same c.step.ensures.steps

pub returns : goal.returns
returns g c = elim c.match-next.branch [
  | in-None w ↦ rw (w.worker-is, w.gate-is) c.loop.invariant
  | in-Some+in-Held+then-is_over w ↦ rw (w.worker-is, w.gate-is) (ran_step _ _ _ _ _ _ _ _ c.loop.invariant w.step.ensures.same w.step.ensures.steps)
]
