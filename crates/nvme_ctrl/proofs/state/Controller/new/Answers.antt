use Rattle.std.proofs.Common.{[], false}
use Rattle.nvme_ctrl_log.specs.Making.{first_rules}
use Rattle.nvme_ctrl.proofs.NewCall.{first_of_new}
use Rattle.nvme_ctrl.proofs.state.Controller.new.Goals as goal

pub returns-clause-stands : goal.returns-clause-stands
returns-clause-stands c sizes =
    let a = c.args in
    c.first_controller.ensures.stands (first_rules a.mechanism a.settings a.limits a.sq a.cq sizes)
    (first_of_new a.mechanism a.settings a.limits a.sq a.cq sizes c.in_ok-table.table c.in_ok-table.ensures.tells)

pub returns-clause-front : goal.returns-clause-front
returns-clause-front c =
    let a = c.args in
    record { rules = first_rules a.mechanism a.settings a.limits a.sq a.cq []; late = false; notes = []; stands = returns-clause-stands c [] }
