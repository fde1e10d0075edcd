use Rattle.std.proofs.Common.{[], false}
use Rattle.nvme_placing.specs.Telling.{placing_by}
use Rattle.nvme_ctrl_log.specs.Making.{anywhere_rules}
use Rattle.nvme_ctrl.proofs.NewCall.{first_anywhere}
use Rattle.nvme_ctrl.proofs.state.Controller.anywhere.Goals as goal

pub returns-clause-stands : goal.returns-clause-stands
returns-clause-stands c sizes =
    let a = c.args in
    c.first_controller.ensures.stands (anywhere_rules a.mechanism a.settings a.limits (placing_by a.placement) a.sq a.cq sizes)
    (first_anywhere a.mechanism a.settings a.limits (placing_by a.placement) a.sq a.cq sizes c.in_ok-table.table (c.in_ok-table.ensures.tells a.sq.address a.cq.address))

pub returns-clause-front : goal.returns-clause-front
returns-clause-front c =
    let a = c.args in
    record { rules = anywhere_rules a.mechanism a.settings a.limits (placing_by a.placement) a.sq a.cq []; late = false; notes = []; stands = returns-clause-stands c [] }
