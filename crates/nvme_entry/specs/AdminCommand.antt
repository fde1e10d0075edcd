-- Admin commands and their fields, by their places in the command dwords.
-- (Base Specification, Opcodes for Admin Commands, and the command dwords of each command)
use Rattle.std.specs.Prelude.{ℕ, Bool, ◌==◌, if◌then◌else◌}
use Rattle.nvme_entry.specs.Bits.{bits_of}
use Rattle.nvme_entry.specs.declared.submission.Sqe.{Sqe}
use Rattle.nvme_entry.specs.declared.admin.AdminCommand.{AdminCommand}
use Rattle.nvme_entry.specs.declared.admin.AdminCommand.TheVariants.{DeleteSq, CreateSq, DeleteCq, CreateCq, Abort, SetFeatures, GetFeatures, Other}

-- QID: bits 15:00 of Command Dword 10
abbrev pub qid_of : Sqe → ℕ
qid_of entry = bits_of 15 0 entry.cdw10

-- QSIZE, zero based: bits 31:16 of Command Dword 10
abbrev pub qsize_of : Sqe → ℕ
qsize_of entry = bits_of 31 16 entry.cdw10

-- CQID: bits 31:16 of Command Dword 11
abbrev pub cqid_of : Sqe → ℕ
cqid_of entry = bits_of 31 16 entry.cdw11

-- QPRIO: bits 02:01 of Command Dword 11
abbrev pub qprio_of : Sqe → ℕ
qprio_of entry = bits_of 2 1 entry.cdw11

-- PC: bit 00 of Command Dword 11
abbrev pub pc_of : Sqe → Bool
pc_of entry = bits_of 0 0 entry.cdw11 == 1

-- SQID of an Abort: bits 15:00 of Command Dword 10
abbrev pub sqid_of : Sqe → ℕ
sqid_of entry = bits_of 15 0 entry.cdw10

-- CID of an Abort: bits 31:16 of Command Dword 10
abbrev pub cid_of : Sqe → ℕ
cid_of entry = bits_of 31 16 entry.cdw10

-- the feature identifier: bits 07:00 of Command Dword 10
abbrev pub fid_of : Sqe → ℕ
fid_of entry = bits_of 7 0 entry.cdw10

-- SV: bit 31 of Command Dword 10
abbrev pub sv_of : Sqe → Bool
sv_of entry = bits_of 31 31 entry.cdw10 == 1

-- the admin command of an entry
abbrev pub admin_command_of : Sqe → AdminCommand
admin_command_of entry =
    if entry.opcode == 0x00 then DeleteSq (qid_of entry)
    else (if entry.opcode == 0x01 then CreateSq (qid_of entry) (qsize_of entry) entry.prp1 (cqid_of entry) (qprio_of entry) (pc_of entry)
    else (if entry.opcode == 0x04 then DeleteCq (qid_of entry)
    else (if entry.opcode == 0x05 then CreateCq (qid_of entry) (qsize_of entry) entry.prp1 (pc_of entry)
    else (if entry.opcode == 0x08 then Abort (sqid_of entry) (cid_of entry)
    else (if entry.opcode == 0x09 then SetFeatures (fid_of entry) (sv_of entry) entry.cdw11
    else (if entry.opcode == 0x0a then GetFeatures (fid_of entry)
    else Other))))))
