use Rattle.std.proofs.Common.{◌≡◌, take}
use Rattle.std.specs.List.{All}
use Rattle.nvme_pool.specs.Seat.{IsUnknown}
use Rattle.nvme_pool.proofs.seat.first_of.Given as goal

abbrev pub invariant-loop-end : goal.invariant-loop-end
invariant-loop-end l = (l.ends ≡ l.initial.ends) × All IsUnknown (take l.end-index l.initial.ends)
