-- The admin commands that are the device's.
-- (Base Specification, Opcodes for Admin Commands, Set Features and Get Features; which are the device's: profile)
use Rattle.std.specs.Prelude.{ℕ, ◌==◌, ◌&&◌, Bool, false, not, List, replicate, slice_set, get_or, Option, option_map}
use Rattle.nvme_entry.specs.AdminCommand.{admin_command_of}
use Rattle.nvme_entry.specs.declared.submission.Sqe.{Sqe}
use Rattle.nvme_entry.specs.declared.admin.AdminCommand.{AdminCommand}
use Rattle.nvme_entry.specs.declared.admin.AdminCommand.TheVariants.{Abort, SetFeatures, GetFeatures, Other}
use Rattle.nvme_log.specs.Rules.{Past}
use Rattle.nvme_log.specs.Histories.{admin_entry}
use Rattle.nvme_ctrl_log.specs.Notes.{Notes, logged}
use Rattle.nvme_ctrl.specs.declared.own.OwnCommands.{OwnCommands}
use Rattle.nvme_ctrl.specs.declared.state.Controller.{Controller}
use Rattle.nvme_ctrl_log.specs.Own.{kind_may_be_own, names_none}

-- a number is set where it isn't 0
abbrev pub has_number : List ℕ → ℕ → Bool
has_number numbers n = not (get_or numbers n 0 == 0)

abbrev pub no_numbers : List ℕ
no_numbers = replicate 256 0

-- no command is the device's
abbrev pub no_own : OwnCommands
no_own = record { opcodes = no_numbers; features = no_numbers }

-- the commands of an opcode more, and those of a feature identifier
abbrev pub with_opcode : ℕ → OwnCommands → OwnCommands
with_opcode opcode own = record own { opcodes = slice_set own.opcodes opcode 1 }

abbrev pub with_feature : ℕ → OwnCommands → OwnCommands
with_feature fid own = record own { features = slice_set own.features fid 1 }

-- those of a controller
abbrev pub own_of : Controller → OwnCommands
own_of c = c.own

-- the number of its opcode or of its feature is set
abbrev pub is_announced : OwnCommands → Sqe → AdminCommand → Bool
is_announced own entry Other = has_number own.opcodes entry.opcode
is_announced own entry (Abort sqid cid) = has_number own.opcodes entry.opcode
is_announced own entry (SetFeatures fid sv cdw11) = has_number own.features fid
is_announced own entry (GetFeatures fid) = has_number own.features fid
is_announced own entry command = false

-- an entry is of a kind that is the device's
abbrev pub kind_is_own : OwnCommands → Sqe → Bool
kind_is_own own entry = kind_may_be_own entry && is_announced own entry (admin_command_of entry)

-- an entry is the device's, where its command is picked after these events
abbrev pub is_own : OwnCommands → Past → Sqe → Bool
is_own own past entry = kind_is_own own entry && names_none past (admin_command_of entry)

-- whether the command that the admin queue's next pick takes is the device's
abbrev pub oldest_is_own : OwnCommands → Notes → Option Bool
oldest_is_own own notes = option_map (is_own own (logged notes)) (admin_entry (logged notes))
