use Rattle.std.proofs.Common.{◌≡◌, drop}
use Rattle.nvme_points.specs.Overridden.{overridden}
use Rattle.nvme_points.proofs.overridden.overridden.Given as goal

-- the first one is among what is left
abbrev pub invariant-loop-axis : goal.invariant-loop-axis
invariant-loop-axis l = overridden l.options (drop l.axis-index l.axes) ≡ overridden l.options l.axes
