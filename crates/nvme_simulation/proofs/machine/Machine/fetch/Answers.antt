use Rattle.std.proofs.Common.{◌∙◌, arith, refl}
use Rattle.nvme_simulation.proofs.Machines.{goes_self, goes_then}
use Rattle.nvme_simulation.proofs.Resting.{all_rest, all_rest_then}
use Rattle.nvme_simulation.proofs.machine.Machine.fetch.Goals as goal

pub loop-turn-init : goal.loop-turn-init
loop-turn-init c = record { goes = goes_self _ c.requires.front; cost = refl; agenda = refl; device = refl; rests = all_rest _ }

pub returns-in_err-fetch_one-clause-goes : goal.returns-in_err-fetch_one-clause-goes
returns-in_err-fetch_one-clause-goes c = goes_then _ _ _ c.loop-turn.invariant.goes c.fetch_one.ensures.goes

pub returns-then-not-branch-clause-goes : goal.returns-then-not-branch-clause-goes
returns-then-not-branch-clause-goes c = goes_then _ _ _ c.loop-turn.invariant.goes c.fetch_one.ensures.goes

pub loop-turn-preserved : goal.loop-turn-preserved
loop-turn-preserved c = record {
  goes = goes_then _ _ _ c.loop-turn.invariant.goes c.fetch_one.ensures.goes;
  cost = c.fetch_one.ensures.cost ∙ c.loop-turn.invariant.cost;
  agenda = c.fetch_one.ensures.agenda ∙ c.loop-turn.invariant.agenda;
  device = c.fetch_one.ensures.device ∙ c.loop-turn.invariant.device;
  rests = all_rest_then _ _ _ c.loop-turn.invariant.rests c.fetch_one.ensures.rests;
}

pub returns-then-not-branch-clause-all : goal.returns-then-not-branch-clause-all
returns-then-not-branch-clause-all c = c.in_ok-fetch_one.ensures.all (grind (arith, c.if-not-branch.true))
