use Rattle.std.proofs.Common.{◌≡◌, ℕ, ◌<◌, length, get_or}
use Rattle.nvme_lane.specs.Feeder.{put_of}
use Rattle.nvme_front.proofs.settlement.are_feeders.Given as goal

abbrev pub invariant-loop-r : goal.invariant-loop-r
invariant-loop-r l = record {
  feeders : length l.feeders ≡ l.count;
  gets : length l.front.gets ≡ l.count;
  same : (k : ℕ) (f : _) (g : _) → k < l.r → (put_of (get_or l.feeders k f)).address ≡ (get_or l.front.gets k g).address;
}
