use Rattle.std.proofs.Common.{◌≡◌, take}
use Rattle.nvme_numbers.specs.Fairness.{level_parts}
use Rattle.nvme_numbers.proofs.answer.jain_of_weighted.Given as goal

-- the parts of the queues of levels so far
abbrev pub invariant-loop-member : goal.invariant-loop-member
invariant-loop-member l = l.parts.items ≡ level_parts l.fn.settings (take l.member-index l.queues)
