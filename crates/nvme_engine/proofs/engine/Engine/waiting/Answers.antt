use Rattle.nvme_engine.proofs.engine.Engine.waiting.Goals as goal

pub returns : goal.returns
returns c rules late notes s queue opened = c.waiting.ensures.waits s.their s.their_late notes c.args.self.now.slots.items s.stands queue opened
