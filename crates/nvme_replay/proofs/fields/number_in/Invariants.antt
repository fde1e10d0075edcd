use Rattle.std.proofs.Common.{◌≡◌, drop}
use Rattle.nvme_replay.specs.Texts.{number_from, number_in}
use Rattle.nvme_replay.proofs.fields.number_in.Given as goal

-- the digits that are left are read behind those so far
abbrev pub invariant-loop-digit : goal.invariant-loop-digit
invariant-loop-digit l = number_from l.number (drop l.digit-index l.digits) ≡ number_in l.digits
