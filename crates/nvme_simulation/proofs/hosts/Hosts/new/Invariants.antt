use Rattle.std.proofs.Common.{◌≡◌, ◌≤◌, ◌++◌, All, length}
use Rattle.std.specs.Prelude.{map}
use Rattle.std.specs.Vec.Iter.{into_iter_items}
use Rattle.nvme_simulation.specs.Beginnings.{DrawTheirStreams, IsUnused}
use Rattle.nvme_simulation.specs.Creating.{Does, creates_from}
use Rattle.nvme_simulation.specs.Loads.{load_in, load_of}
use Rattle.nvme_simulation.specs.Fronts.{StaysFront}
use Rattle.nvme_simulation.proofs.hosts.Hosts.new.Given as goal

abbrev pub invariant-loop-queue : goal.invariant-loop-queue
invariant-loop-queue l = record {
  front : StaysFront l.fn.front l.front;
  loads : map load_of l.all.items ++ map load_in (into_iter_items l.queue-iterator) ≡ map load_in l.fn.queues.items;
  none : All IsUnused l.all.items;
  streams : DrawTheirStreams l.fn.seed l.all.items;
  creates : length l.all.items ≤ 65_535 → Does (creates_from 1 (map load_of l.all.items)) l.fn.front l.front;
}
