use Rattle.std.proofs.Common.{◌≡◌, length}
use Rattle.nvme_numbers.specs.Collected.{AreFresh}
use Rattle.nvme_numbers.proofs.numbers.Numbers.new.Given as goal

-- no command yet of the queues so far
abbrev pub invariant-loop-queue : goal.invariant-loop-queue
invariant-loop-queue l = record {
  count : length l.queues.items ≡ l.queue-index;
  fresh : AreFresh l.model.queues.items l.queues.items;
}
