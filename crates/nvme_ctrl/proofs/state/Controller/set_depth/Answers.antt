-- A depth changes nothing else.
use Rattle.nvme_ctrl.proofs.OwnCall.{owned, owned_front}
use Rattle.nvme_ctrl.proofs.state.Controller.set_depth.Goals as goal

pub returns-then-qid-lt-MAX_REGIONS-clause-front : goal.returns-then-qid-lt-MAX_REGIONS-clause-front
returns-then-qid-lt-MAX_REGIONS-clause-front c = λ pool is. owned_front c.args.self.now pool c.args.self.now.own _ is

pub returns-then-qid-lt-MAX_REGIONS-clause-stands : goal.returns-then-qid-lt-MAX_REGIONS-clause-stands
returns-then-qid-lt-MAX_REGIONS-clause-stands c = λ rules late notes pool s. owned rules late notes c.args.self.now pool c.args.self.now.own _ s
