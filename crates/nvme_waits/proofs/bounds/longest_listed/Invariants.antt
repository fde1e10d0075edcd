use Rattle.std.proofs.Common.{◌≡◌, take}
use Rattle.nvme_waits.specs.Longest.{longest_listed}
use Rattle.nvme_waits.proofs.bounds.longest_listed.Given as goal

-- the longest service of the commands so far
abbrev pub invariant-loop-request : goal.invariant-loop-request
invariant-loop-request l = l.longest ≡ longest_listed l.services (take l.request-index l.requests)
