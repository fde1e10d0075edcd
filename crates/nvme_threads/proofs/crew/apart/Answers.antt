use Rattle.std.proofs.Common.{rules, refl, ap, map, arith}
use Rattle.std.proofs.lemmas.List.{nil_from_length}
use Rattle.nvme_threads.proofs.Joins.{moved-out, all-moved}
use Rattle.nvme_threads.proofs.crew.apart.Goals as goal

pub loop-worker-preserved : goal.loop-worker-preserved
loop-worker-preserved g c =
    let inv = c.loop-worker.invariant in
    let next = c.in-Some.ensures.steps.0 in
    record {
      room_of_workers = search rules;
      room_of_gates = search rules;
      workers = moved-out _ _ _ _ _ _ _ _ c.push_reserved.ensures.items next refl inv.workers;
      gates = moved-out _ _ _ _ _ _ _ _ c.push_reserved-in-loop-worker.ensures.items next refl inv.gates;
    }

pub returns-clause-workers : goal.returns-clause-workers
returns-clause-workers g c =
    let none = nil_from_length _ (omega (arith, c.in-None.ensures.steps.0, c.loop-worker.worker-iterator.rest.ok)) in
    all-moved _ _ _ (ap (λ xs. map (λ k. k.worker) xs) none) c.loop-worker.invariant.workers

pub returns-clause-gates : goal.returns-clause-gates
returns-clause-gates g c =
    let none = nil_from_length _ (omega (arith, c.in-None.ensures.steps.0, c.loop-worker.worker-iterator.rest.ok)) in
    all-moved _ _ _ (ap (λ xs. map (λ k. k.gate) xs) none) c.loop-worker.invariant.gates
