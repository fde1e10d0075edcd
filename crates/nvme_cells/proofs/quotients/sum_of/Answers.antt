use Rattle.std.proofs.Common.{ℕ, arith}
use Rattle.std.proofs.lemmas.List.Sums.{sum_by_more_le}
use Rattle.nvme_cells.proofs.quotients.sum_of.Goals as goal

pub returns-in-None : goal.returns-in-None
returns-in-None c =
    let more = sum_by_more_le (λ (p : ℕ). p) c.args.parts.now c.loop-part.part-index 0 c.loop-part-test.true in
    omega (arith, more)
