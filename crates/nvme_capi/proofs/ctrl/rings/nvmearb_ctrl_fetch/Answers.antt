use Rattle.std.proofs.Common.{◌≡◌, ◌∙◌, None, Some, sym}
use Rattle.nvme_capi.proofs.ctrl.rings.nvmearb_ctrl_fetch.Goals as goal

pub returns-in-Some-clause-may : goal.returns-in-Some-clause-may
returns-in-Some-clause-may c = λ rules late notes slots s _. c.in-Some.ensures.may rules late notes slots s

pub returns-in-None-clause-nothing : goal.returns-in-None-clause-nothing
returns-in-None-clause-nothing c = λ rules late notes slots s _ it may.
    let lost : None ≡ Some it = sym c.in-None.is ∙ c.fetch.ensures.told rules late notes slots s it may in
    cc lost
