use Rattle.std.proofs.Common.{◌≡◌, ◌+◌, ◌≤◌, ◌++◌, List}
use Rattle.std.specs.Prelude.{map, vec_len, vec_capacity}
use Rattle.std.specs.List.{AllZip}
use Rattle.std.specs.Vec.Iter.{into_iter_items, into_iter_len}
use Rattle.nvme_threads.proofs.join.join_all.Given as goal

abbrev pub invariant-loop-handle : goal.invariant-loop-handle
invariant-loop-handle g l = record {
  room : vec_len l.back + into_iter_len l.handle-iterator ≤ vec_capacity l.back;
  ended : List _;
  ran : AllZip g.T.Task.ran ended l.back.items;
  all : ended ++ map (λ h. h.promise.0.value) (into_iter_items l.handle-iterator) ≡ map (λ h. h.promise.0.value) l.fn.started.handles.items;
}
