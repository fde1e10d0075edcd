use Rattle.nvme_ctrl.proofs.Depths.{depths_suffice, depths_leave_room, held_wait_or_are_unposted}
use Rattle.nvme_ctrl.proofs.laws.depths_suffice.Goals as goal

pub returns-clause-hold : goal.returns-clause-hold
returns-clause-hold c = depths_suffice

pub returns-clause-leave : goal.returns-clause-leave
returns-clause-leave c = depths_leave_room

pub returns-clause-held : goal.returns-clause-held
returns-clause-held c = held_wait_or_are_unposted
