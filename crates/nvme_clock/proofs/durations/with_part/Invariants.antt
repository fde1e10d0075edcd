use Rattle.std.proofs.Common.{◌≡◌, drop}
use Rattle.nvme_clock.specs.Durations.{part_from}
use Rattle.nvme_clock.proofs.durations.with_part.Given as goal

-- the digits that are left add to the duration so far
abbrev pub invariant-loop-digit : goal.invariant-loop-digit
invariant-loop-digit l = part_from l.place l.duration (drop l.digit-index l.digits) ≡ part_from l.unit l.whole l.digits
