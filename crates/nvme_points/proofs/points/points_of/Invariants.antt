use Rattle.std.proofs.Common.{◌≡◌, ◌*◌, drop}
use Rattle.nvme_points.specs.Points.{count_of}
use Rattle.nvme_points.proofs.points.points_of.Given as goal

-- the product so far, times that of the lengths that are left, is that of all
abbrev pub invariant-loop-length : goal.invariant-loop-length
invariant-loop-length l = l.count * count_of (drop l.length-index l.lengths) ≡ count_of l.lengths
