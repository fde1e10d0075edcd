use Rattle.std.proofs.Common.{◌≡◌, drop}
use Rattle.std.specs.List.{list_any}
use Rattle.nvme_arbiter.specs.Specified.{has_credit}
use Rattle.nvme_judge.proofs.round.Round.some_has_credit.Given as goal

abbrev pub invariant-loop-queue : goal.invariant-loop-queue
invariant-loop-queue l = list_any (has_credit l.self.settings l.self.used) (drop l.queue-index l.seen) ≡ list_any (has_credit l.self.settings l.self.used) l.seen
