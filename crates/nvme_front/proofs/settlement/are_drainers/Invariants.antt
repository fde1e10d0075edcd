use Rattle.std.proofs.Common.{◌≡◌, ℕ, ◌<◌, length, get_or}
use Rattle.nvme_lane.specs.Drainer.{get_of}
use Rattle.nvme_front.proofs.settlement.are_drainers.Given as goal

abbrev pub invariant-loop-c : goal.invariant-loop-c
invariant-loop-c l = record {
  drainers : length l.drainers ≡ l.count;
  puts : length l.front.puts ≡ l.count;
  same : (k : ℕ) (d : _) (p : _) → k < l.c → (get_of (get_or l.drainers k d)).address ≡ (get_or l.front.puts k p).address;
}
