use Rattle.std.proofs.Common.{◌≡◌, drop}
use Rattle.nvme_points.specs.Documents.{load_among}
use Rattle.nvme_points.proofs.place.load_among.Given as goal

-- the load is among what is left
abbrev pub invariant-loop-index : goal.invariant-loop-index
invariant-loop-index l = load_among (drop l.index l.axes) (drop l.index l.values) ≡ load_among l.axes l.values
