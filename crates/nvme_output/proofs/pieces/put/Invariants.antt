use Rattle.std.proofs.Common.{◌≡◌, List, ℕ, ◌++◌, length}
use Rattle.std.specs.Io.KnownBytes.{Appends}
use Rattle.nvme_output.proofs.pieces.put.Given as goal

-- the prefix of the bytes that isn't left was written
abbrev pub invariant-loop-rest : goal.invariant-loop-rest
invariant-loop-rest g l =
    (prefix : List ℕ) × (prefix ++ l.rest ≡ l.fn.bytes) × Appends (g.W.Write.contents l.fn.writer) (g.W.Write.contents l.writer) prefix

abbrev pub decreases-loop-rest : goal.decreases-loop-rest
decreases-loop-rest g l = length l.rest
