use Rattle.std.proofs.Common.{◌≡◌, length}
use Rattle.nvme_simulate.proofs.replays.Listings.put_into.Given as goal

-- all but the queues is as it was, and so is their number
abbrev pub invariant-loop-source : goal.invariant-loop-source
invariant-loop-source l =
    (l.model ≡ record l.fn.model { queues = l.model.queues; some = l.model.some; at_most = l.model.at_most })
    × (length l.model.queues.items ≡ length l.fn.model.queues.items)
