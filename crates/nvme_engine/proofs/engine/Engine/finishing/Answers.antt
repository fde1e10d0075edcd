-- The queue whose deletion can be finished is that of the pending one, and is served on its region.
use Rattle.std.proofs.Common.{◌≡◌, Some, None, refl}
use Rattle.nvme_engine.specs.declared.engine.Engine.{Engine}
use Rattle.nvme_engine.proofs.Additions.{on_regions}
use Rattle.nvme_engine.proofs.Serving.{finishable_is, finishing_is, none_finishes}
use Rattle.nvme_engine.proofs.engine.Engine.finishing.Goals as goal

pub returns-in_err-qid-clause-none : goal.returns-in_err-qid-clause-none
returns-in_err-qid-clause-none c rules late notes s none d is =
    let e : Engine = c.args.self.now in
    none_finishes rules late notes e s (c.in_err-qid.ensures.none s.their s.their_late notes e.slots.items s.stands refl) d is

pub returns-in_err-region-clause-none : goal.returns-in_err-region-clause-none
returns-in_err-region-clause-none c rules late notes s none d is =
    let e : Engine = c.args.self.now in
    let f = c.in_ok-qid.ensures.some s.their s.their_late notes e.slots.items s.stands in
    let at : None ≡ Some f.region =
    (c.in_err-region.ensures.on_regions s.their s.their_late notes e.slots.items s.stands (on_regions s.their s.alike.adds) f.region).1
    (f.queue, (finishable_is rules late notes e s c.in_ok-qid.qid f).1) in
    absurd (cc at)

pub returns-clause-some : goal.returns-clause-some
returns-clause-some c rules late notes s =
    let e : Engine = c.args.self.now in
    finishing_is rules late notes e s c.in_ok-qid.qid c.in_ok-region.region (c.in_ok-qid.ensures.some s.their s.their_late notes e.slots.items s.stands)
    (c.in_ok-region.ensures.on_regions s.their s.their_late notes e.slots.items s.stands (on_regions s.their s.alike.adds))
