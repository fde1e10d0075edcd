use Rattle.std.proofs.Common.{take}
use Rattle.nvme_replay.specs.Lists.{AreAsked}
use Rattle.nvme_replay.proofs.list.replay_of.Given as goal

-- the requests of the lines so far
abbrev pub invariant-loop-it : goal.invariant-loop-it
invariant-loop-it l = AreAsked l.wanted (take l.it-index l.lined) l.requests.items
