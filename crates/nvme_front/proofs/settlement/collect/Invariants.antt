use Rattle.std.proofs.Common.{◌≡◌, length}
use Rattle.nvme_front.specs.inside.Resting.{Collects}
use Rattle.nvme_front.proofs.settlement.collect.Given as goal

abbrev pub invariant-loop-c : goal.invariant-loop-c
invariant-loop-c l = record {
  collects : Collects l.c l.fn.drainers.items l.drainers.items l.fn.front l.front;
  drainers : length l.drainers.items ≡ l.count;
  puts : length l.front.puts ≡ l.count;
}
