use Rattle.std.proofs.Common.{◌≡◌, take}
use Rattle.nvme_numbers.specs.Fairness.{commands_of_each}
use Rattle.nvme_numbers.proofs.answer.jain_of_queues.Given as goal

-- the commands of the queues so far
abbrev pub invariant-loop-member : goal.invariant-loop-member
invariant-loop-member l = l.parts.items ≡ commands_of_each (take l.member-index l.queues)
