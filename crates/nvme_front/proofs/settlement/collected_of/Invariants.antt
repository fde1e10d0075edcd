use Rattle.std.proofs.Common.{◌≡◌, ◌+◌, ◌≤◌, ◌++◌}
use Rattle.std.specs.Prelude.{map, vec_len, vec_capacity}
use Rattle.std.specs.Vec.Iter.{into_iter_items, into_iter_len}
use Rattle.nvme_lane.specs.Drainer.{items_of}
use Rattle.nvme_front.proofs.settlement.collected_of.Given as goal

abbrev pub invariant-loop-drainer : goal.invariant-loop-drainer
invariant-loop-drainer l = record {
  room : vec_len l.collected + into_iter_len l.drainer-iterator ≤ vec_capacity l.collected;
  collected : map (λ v. v.items) l.collected.items ++ map (λ d. items_of d) (into_iter_items l.drainer-iterator) ≡ map (λ d. items_of d) l.fn.drainers.items;
}
