use Rattle.std.proofs.Common.{◌≡◌, ◌+◌, ◌≤◌, ◌++◌}
use Rattle.std.specs.Prelude.{map, vec_len, vec_capacity}
use Rattle.std.specs.Vec.Iter.{into_iter_items, into_iter_len}
use Rattle.nvme_threads.proofs.crew.apart.Given as goal

abbrev pub invariant-loop-worker : goal.invariant-loop-worker
invariant-loop-worker g l = record {
  room_of_workers : vec_len l.workers + into_iter_len l.worker-iterator ≤ vec_capacity l.workers;
  room_of_gates : vec_len l.gates + into_iter_len l.worker-iterator ≤ vec_capacity l.gates;
  workers : l.workers.items ++ map (λ c. c.worker) (into_iter_items l.worker-iterator) ≡ map (λ c. c.worker) l.fn.crew.items;
  gates : l.gates.items ++ map (λ c. c.gate) (into_iter_items l.worker-iterator) ≡ map (λ c. c.gate) l.fn.crew.items;
}
