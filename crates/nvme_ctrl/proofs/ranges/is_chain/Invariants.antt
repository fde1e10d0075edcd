-- What is left of the chain tells of all of it.
use Rattle.std.proofs.Common.{◌≡◌}
use Rattle.nvme_ctrl.specs.Ranges.{are_linked}
use Rattle.nvme_ctrl.proofs.ranges.is_chain.Given as goal

abbrev pub invariant-loop-left : goal.invariant-loop-left
invariant-loop-left l =
    are_linked l.lowest l.highest l.slots l.chain.last l.x l.left ≡ are_linked l.lowest l.highest l.slots l.chain.last l.chain.first l.chain.len

abbrev pub decreases-loop-left : goal.decreases-loop-left
decreases-loop-left l = l.left
