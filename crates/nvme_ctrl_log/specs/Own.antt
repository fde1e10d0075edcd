-- The admin commands that may be the device's. (Base Specification, Opcodes for Admin Commands, Set Features and Get Features; which may be the device's: profile)
use Rattle.std.specs.Prelude.{ℕ, ◌==◌, ◌&&◌, ◌||◌, Bool, true, false, not, [], ◌∷◌, length}
use Rattle.nvme_entry.specs.Bits.{bits_of}
use Rattle.nvme_entry.specs.Submission.{fuse_of}
use Rattle.nvme_entry.specs.AdminCommand.{admin_command_of}
use Rattle.nvme_entry.specs.declared.submission.Sqe.{Sqe}
use Rattle.nvme_entry.specs.declared.admin.AdminCommand.{AdminCommand}
use Rattle.nvme_entry.specs.declared.admin.AdminCommand.TheVariants.{Abort, SetFeatures, GetFeatures, Other}
use Rattle.nvme_admin.specs.QueueTable.{arbitration, number_of_queues}
use Rattle.nvme_log.specs.declared.event.Event.TheVariants.{Pick}
use Rattle.nvme_log.specs.Rules.{Past}
use Rattle.nvme_log.specs.Effects.{abort_of}

-- the features of the controller's own: Arbitration and Number of Queues
abbrev pub is_core_feature : ℕ → Bool
is_core_feature fid = fid == arbitration || fid == number_of_queues

-- a Get Features selects another value than the current one: bits 10:08 of Command Dword 10 aren't 0 (Get Features, Select)
abbrev pub selects : Sqe → Bool
selects entry = not (bits_of 10 8 entry.cdw10 == 0)

-- a command is of a kind that may be the device's: those in which the controller has no part, and Abort
abbrev pub command_may_be_own : Sqe → AdminCommand → Bool
command_may_be_own entry Other = true
command_may_be_own entry (Abort sqid cid) = true
command_may_be_own entry (SetFeatures fid sv cdw11) = not (is_core_feature fid)
command_may_be_own entry (GetFeatures fid) = not (is_core_feature fid) || selects entry
command_may_be_own entry command = false

-- an entry is of such a kind. A fused command isn't (Common Command Format, Command Dword 0)
abbrev pub kind_may_be_own : Sqe → Bool
kind_may_be_own entry = fuse_of entry == 0 && command_may_be_own entry (admin_command_of entry)

-- a command is no Abort that names a command that waits, which the controller aborts itself (Abort)
abbrev pub names_none : Past → AdminCommand → Bool
names_none past (Abort sqid cid) = length (abort_of past sqid cid) == 0
names_none past command = true

-- an entry may be the device's, where its command is picked after these events
abbrev pub may_be_own : Past → Sqe → Bool
may_be_own past entry = kind_may_be_own entry && names_none past (admin_command_of entry)

-- the events before the latest pick
abbrev pub before_pick : Past → Past
before_pick [] = []
before_pick (Pick seen pick ∷ past) = past
before_pick (e ∷ past) = before_pick past
