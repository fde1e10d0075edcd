use Rattle.std.proofs.Common.{take}
use Rattle.nvme_points.specs.Rows.{AreRowsFor}
use Rattle.nvme_points.proofs.rows.rows_for.Given as goal

-- the rows so far are those of the scopes so far
abbrev pub invariant-loop-scope : goal.invariant-loop-scope
invariant-loop-scope l = AreRowsFor l.runs (take l.scope-index l.scopes) l.rows.items
