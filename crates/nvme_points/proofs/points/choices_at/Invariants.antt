use Rattle.std.proofs.Common.{◌≡◌, ◌++◌, drop}
use Rattle.nvme_points.specs.Points.{choices_of, count_of}
use Rattle.nvme_points.proofs.points.choices_at.Given as goal

-- the choices so far, and those of what is left, are those of the point. Where none is left, there is none
abbrev pub invariant-loop-length : goal.invariant-loop-length
invariant-loop-length l =
    (l.choices.items ++ choices_of (drop l.length-index l.lengths) l.left ≡ choices_of l.lengths l.point)
    × (count_of (drop l.length-index l.lengths) ≡ 0 → count_of l.lengths ≡ 0)
