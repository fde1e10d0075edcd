use Rattle.nvme_ctrl.proofs.PickCall.{next_is}
use Rattle.nvme_ctrl.proofs.state.Controller.next_pick.Goals as goal

pub returns : goal.returns
returns c rules late notes s = next_is rules late notes c.args.self.now c.args.slots.now s c.peek.result c.peek.ensures.lawful
