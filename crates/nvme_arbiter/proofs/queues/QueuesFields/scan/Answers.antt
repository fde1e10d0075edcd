use Rattle.std.proofs.Common.{arith, inl, inr}
use Rattle.std.proofs.lemmas.Bool.{cases_lt}
use Rattle.nvme_arbiter.proofs.MaskLemmas.{past-wanted}
use Rattle.nvme_arbiter.proofs.queues.QueuesFields.scan.Goals as goal

pub returns : goal.returns
returns c = λ j from. elim (cases_lt j c.loop-qid.qid) [
  | inl l ↦ c.loop-qid.invariant.none j from l
  | inr g ↦ past-wanted c.args.self.now c.args.class j (omega (arith, c.loop-qid-test.false, g))
]
