use Rattle.std.proofs.Common.{[]}
use Rattle.nvme_ctrl.proofs.MayPick.{arbiter_there}
use Rattle.nvme_engine.proofs.NextPicks.{controller_of, stands_with, next_is}
use Rattle.nvme_engine.proofs.engine.Engine.next_pick.Goals as goal

pub next_pick-requires : goal.next_pick-requires
next_pick-requires c = record { arbiter = arbiter_there c.args.self.now.controller c.as_slice.result.now (controller_of c.args.self.now c.requires.engine c.as_slice.result.now c.as_slice.ensures.value) }

pub returns : goal.returns
returns c rules late notes s =
    next_is rules late notes [] c.args.self.now s c.next_pick.result
    (c.next_pick.ensures s.their s.their_late notes (stands_with rules late notes [] c.args.self.now s c.as_slice.result.now c.as_slice.ensures.value))
