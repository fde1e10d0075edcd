use Rattle.std.proofs.Common.{◌-◌, take}
use Rattle.nvme_jobs.specs.Hands.{IsOfNone}
use Rattle.nvme_jobs.proofs.running.find.Given as goal

-- the commands that were looked at, but for the hinted one, are none of the result's
abbrev pub invariant-loop-k : goal.invariant-loop-k
invariant-loop-k l = IsOfNone l.spaces (take (l.k - 1) l.running) l.finished
