use Rattle.std.proofs.Common.{◌≡◌, drop}
use Rattle.nvme_replay.specs.Speeds.{fraction_from}
use Rattle.nvme_replay.proofs.speed.fraction_behind.Given as goal

-- the digits that are left go on with the fraction so far
abbrev pub invariant-loop-digit : goal.invariant-loop-digit
invariant-loop-digit l = fraction_from l.parts l.whole (drop l.digit-index l.digits) ≡ fraction_from l.fn.parts 1 l.digits
