use Rattle.std.proofs.Common.{◌≡◌, take}
use Rattle.nvme_numbers.specs.inside.Unions.{all_amounts}
use Rattle.nvme_numbers.proofs.answer.fed_in.Given as goal

-- what was done of the queues so far
abbrev pub invariant-loop-queue : goal.invariant-loop-queue
invariant-loop-queue l = l.done ≡ all_amounts l.class l.coming.count (take l.queue-index l.queues)
