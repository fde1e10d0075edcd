use Rattle.nvme_engine.proofs.Serving.{deleting_told}
use Rattle.nvme_engine.proofs.engine.Engine.is_deleting.Goals as goal

pub returns : goal.returns
returns c rules late notes s =
    deleting_told notes s.plain c.is_deleting.result (c.is_deleting.ensures.none s.their s.their_late notes c.args.self.now.slots.items s.stands)
    (c.is_deleting.ensures.some s.their s.their_late notes c.args.self.now.slots.items s.stands)
