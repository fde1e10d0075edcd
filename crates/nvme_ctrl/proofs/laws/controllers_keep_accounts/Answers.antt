use Rattle.std.proofs.Common.{refl}
use Rattle.nvme_ctrl.proofs.laws.controllers_keep_accounts.Goals as goal

pub returns : goal.returns
returns c rules notes ctrl slots s = s.account refl
