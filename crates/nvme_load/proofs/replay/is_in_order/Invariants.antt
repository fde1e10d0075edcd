use Rattle.std.proofs.Common.{◌≡◌, drop}
use Rattle.nvme_load.specs.Replays.{in_order}
use Rattle.nvme_load.proofs.replay.is_in_order.Given as goal

abbrev pub invariant-loop-request : goal.invariant-loop-request
invariant-loop-request l = in_order l.before (drop l.request-index l.requests) ≡ in_order 0 l.requests
