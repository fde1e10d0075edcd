use Rattle.std.proofs.Common.{◌≡◌, ◌+◌, ◌≤◌, ◌++◌}
use Rattle.std.specs.Prelude.{map, vec_len, vec_capacity}
use Rattle.std.specs.Vec.Iter.{into_iter_items, into_iter_len}
use Rattle.nvme_threads.proofs.crew.together.Given as goal

abbrev pub invariant-loop-worker : goal.invariant-loop-worker
invariant-loop-worker g l = record {
  room : vec_len l.crew + into_iter_len l.worker-iterator ≤ vec_capacity l.crew;
  number : into_iter_len l.worker-iterator ≡ into_iter_len l.gates;
  workers : map (λ c. c.worker) l.crew.items ++ into_iter_items l.worker-iterator ≡ l.fn.workers.items;
  gates_of : map (λ c. c.gate) l.crew.items ++ into_iter_items l.gates ≡ l.fn.gates.items;
}
