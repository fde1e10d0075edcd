-- Those that are left are linked from the next one on.
use Rattle.std.proofs.Common.{ℕ, List, drop}
use Rattle.nvme_slots.specs.Pool.{IsChain, AreLinked}
use Rattle.nvme_slots.proofs.chain.Chain.nth.Given as goal

abbrev pub invariant-loop : goal.invariant-loop
invariant-loop l = record {
  linked : (xs : List ℕ) → IsChain l.slots l.self xs → AreLinked l.slots l.x l.self.last (drop l.counter xs);
}
