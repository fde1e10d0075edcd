use Rattle.std.proofs.Common.{◌<◌, ℕ}
use Rattle.std.specs.Prelude.{IfSome, slice_get}
use Rattle.nvme_simulation.specs.Beginnings.{Shows, qid_at}
use Rattle.nvme_simulation.proofs.hosts.Hosts.are_shown.Given as goal

abbrev pub invariant-loop-place : goal.invariant-loop-place
invariant-loop-place l = (k : ℕ) → k < l.place → IfSome (slice_get l.fn.self.all.items k) (λ h. Shows l.fn.front (qid_at k) h.class)
