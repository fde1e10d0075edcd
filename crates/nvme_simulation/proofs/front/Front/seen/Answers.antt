use Rattle.nvme_simulation.proofs.front.Front.seen.Goals as goal

pub returns : goal.returns
returns c = λ rules late notes s. c.seen.ensures rules late notes c.args.self.now.pool.items s
