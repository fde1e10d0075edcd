-- What is to be found is among the slots that are left, of which the next one is looked at.
use Rattle.std.proofs.Common.{◌≡◌, ℕ, List, drop}
use Rattle.nvme_slots.specs.Pool.{IsChain, AreLinked, found_in}
use Rattle.nvme_slots.proofs.chain.Chain.find.Given as goal

abbrev pub invariant-loop : goal.invariant-loop
invariant-loop l = record {
  end : l.end ≡ l.self.len;
  left : (xs : List ℕ) → IsChain l.slots l.self xs → found_in l.slots l.cid l.before (drop l.counter xs) ≡ found_in l.slots l.cid l.self.first xs;
  linked : (xs : List ℕ) → IsChain l.slots l.self xs → AreLinked l.slots l.x l.self.last (drop l.counter xs);
}
