use Rattle.std.proofs.Common.{rules, refl, arith}
use Rattle.std.proofs.lemmas.List.{nil_from_length}
use Rattle.nvme_threads.proofs.Joins.{moved-one, all-moved}
use Rattle.nvme_threads.proofs.crew.together.Goals as goal

pub loop-worker-preserved : goal.loop-worker-preserved
loop-worker-preserved g c =
    let inv = c.loop-worker.invariant in
    let items = c.push_reserved.ensures.items in
    record {
      room = search rules;
      number = search rules;
      workers = moved-one _ _ _ _ _ _ _ _ items c.in-Some.ensures.steps.0 refl inv.workers;
      gates_of = moved-one _ _ _ _ _ _ _ _ items c.in-Some-next.ensures.items refl inv.gates_of;
    }

pub returns-clause-workers : goal.returns-clause-workers
returns-clause-workers g c = all-moved _ _ _ (nil_from_length _ (omega (arith, c.in-None.ensures.steps.0, c.loop-worker.worker-iterator.rest.ok))) c.loop-worker.invariant.workers

pub returns-clause-gates : goal.returns-clause-gates
returns-clause-gates g c =
    let inv = c.loop-worker.invariant in
    all-moved _ _ _ (nil_from_length _ (omega (arith, c.in-None.ensures.steps.0, inv.number, c.loop-worker.gates.rest.ok))) inv.gates_of
