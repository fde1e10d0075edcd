use Rattle.std.proofs.Common.{not, sym, ap, ◌∙◌}
use Rattle.nvme_entry.specs.AdminCommand.{admin_command_of}
use Rattle.nvme_entry.specs.declared.admin.AdminCommand.{AdminCommand}
use Rattle.nvme_entry.specs.declared.admin.AdminCommand.TheVariants as command
use Rattle.nvme_ctrl_log.specs.Notes.{logged}
use Rattle.nvme_ctrl_log.specs.Own.{names_none}
use Rattle.nvme_ctrl.proofs.WaitingNames.{others_name_none, not_twice}
use Rattle.nvme_ctrl.proofs.state.Controller.names_none.Goals as goal

pub returns-in-Abort : goal.returns-in-Abort
returns-in-Abort c rules late notes s none =
    ap not (c.has_waiting.ensures rules late notes s none)
    ∙ not_twice (names_none (logged notes) (command.Abort c.in-Abort.sqid c.in-Abort.cid))
    ∙ ap (λ (x : AdminCommand). names_none (logged notes) x) (sym c.in-Abort.is ∙ c.admin_of.ensures)

pub returns-in_default : goal.returns-in_default
returns-in_default c rules late notes s none =
    sym (others_name_none (logged notes) (admin_command_of c.args.entry.now) (λ sqid cid is. c.in_default.not-Abort sqid cid (c.admin_of.ensures ∙ is)))
