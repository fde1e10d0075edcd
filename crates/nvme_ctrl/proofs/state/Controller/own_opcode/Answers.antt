-- What is the device's changes nothing else.
use Rattle.nvme_ctrl.proofs.OwnCall.{owned, owned_front}
use Rattle.nvme_ctrl.proofs.state.Controller.own_opcode.Goals as goal

pub returns-clause-front : goal.returns-clause-front
returns-clause-front c = λ pool is. owned_front c.args.self.now pool _ c.args.self.now.depths is

pub returns-clause-stands : goal.returns-clause-stands
returns-clause-stands c = λ rules late notes pool s. owned rules late notes c.args.self.now pool _ c.args.self.now.depths s
