use Rattle.std.proofs.Common.{◌≡◌, ◌+◌, ◌≤◌, ◌++◌}
use Rattle.std.specs.Prelude.{map, vec_len, vec_capacity}
use Rattle.std.specs.Vec.Iter.{into_iter_items, into_iter_len}
use Rattle.nvme_front.specs.Hosts.{told, told_by}
use Rattle.nvme_front.proofs.settlement.sent_of.Given as goal

abbrev pub invariant-loop-feeder : goal.invariant-loop-feeder
invariant-loop-feeder l = record {
  room : vec_len l.sent + into_iter_len l.feeder-iterator ≤ vec_capacity l.sent;
  sent : map told_by l.sent.items ++ map told (into_iter_items l.feeder-iterator) ≡ map told l.fn.feeders.items;
}
