use Rattle.std.proofs.Common.{◌≡◌, sum, take}
use Rattle.nvme_cells.proofs.quotients.sum_of.Given as goal

-- the sum of the parts so far
abbrev pub invariant-loop-part : goal.invariant-loop-part
invariant-loop-part l = l.sum ≡ sum (take l.part-index l.parts)
