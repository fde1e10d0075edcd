use Rattle.std.proofs.Common.{◌≡◌, drop}
use Rattle.toml.specs.View.{table_view}
use Rattle.nvme_points.specs.Documents.{put_all}
use Rattle.nvme_points.proofs.place.put_all.Given as goal

-- what is left to be put makes of the document what all make of the file
abbrev pub invariant-loop-index : goal.invariant-loop-index
invariant-loop-index l = put_all (drop l.index l.axes) (drop l.index l.values) (table_view l.document) ≡ put_all l.axes l.values (table_view l.fn.file)
