use Rattle.std.proofs.Common.{◌≡◌}
use Rattle.nvme_audit.specs.Coverage.{counted}
use Rattle.nvme_audit.proofs.CountLemmas.{first_mapped}
use Rattle.nvme_audit.proofs.scene.count_asked.Given as goal

-- the events before are counted
abbrev pub invariant-loop-count : goal.invariant-loop-count
invariant-loop-count l = l.counts ≡ first_mapped (counted l.fn.scene) l.count-index l.initial.counts
