use Rattle.std.proofs.Common.{◌≡◌, ◌+◌, ◌≤◌, ◌++◌}
use Rattle.std.specs.Prelude.{map, vec_len, vec_capacity}
use Rattle.std.specs.List.{All}
use Rattle.std.specs.Vec.Iter.{into_iter_items, into_iter_len}
use Rattle.nvme_threads.proofs.start.start_all.Given as goal

abbrev pub invariant-loop-task : goal.invariant-loop-task
invariant-loop-task g l = record {
  room : vec_len l.handles + into_iter_len l.task-iterator ≤ vec_capacity l.handles;
  can : All (λ t. g.T.Task.can_run t l.shared) (into_iter_items l.task-iterator);
  started : map (λ h. h.promise.0.value) l.handles.items ++ into_iter_items l.task-iterator ≡ l.fn.tasks.items;
}
