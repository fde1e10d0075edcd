use Rattle.std.proofs.Common.{◌≡◌, ℕ, ◌*◌, take}
use Rattle.std.specs.List.{sum_by}
use Rattle.nvme_cells.proofs.quotients.squares_of.Given as goal

-- the sum of the squares so far
abbrev pub invariant-loop-part : goal.invariant-loop-part
invariant-loop-part l = l.sum ≡ sum_by (λ (p : ℕ). p * p) (take l.part-index l.parts)
