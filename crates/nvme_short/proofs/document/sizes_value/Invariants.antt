use Rattle.std.proofs.Common.{◌≡◌, ◌++◌, drop, map}
use Rattle.toml.specs.View.{view}
use Rattle.nvme_short.specs.Documents.{number}
use Rattle.nvme_short.proofs.document.sizes_value.Given as goal

abbrev pub invariant-loop-size : goal.invariant-loop-size
invariant-loop-size l = map view l.values.items ++ map number (drop l.size-index l.sizes) ≡ map number l.sizes
