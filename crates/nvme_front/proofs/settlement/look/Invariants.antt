use Rattle.std.proofs.Common.{◌≡◌, length}
use Rattle.nvme_front.specs.inside.Resting.{Rests}
use Rattle.nvme_front.proofs.settlement.look.Given as goal

abbrev pub invariant-loop-r : goal.invariant-loop-r
invariant-loop-r l = record {
  rests : Rests l.r l.quiet l.fn.feeders.items l.feeders.items l.fn.front l.front;
  feeders : length l.feeders.items ≡ l.count;
  gets : length l.front.gets ≡ l.count;
}
