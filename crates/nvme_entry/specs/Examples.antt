-- Worked examples, for which the definitions compute. (Base Specification, Submission Queue Entry, Completion Queue
-- Entry, and the command dwords of each admin command; NVM Command Set Specification, Flush, Write and Read)
use Rattle.std.specs.Prelude.{◌≡◌, ℕ, List, [], ◌∷◌, map, true, false}
use Rattle.nvme_entry.specs.AdminCommand.{admin_command_of}
use Rattle.nvme_entry.specs.Outcome.{outcome_of}
use Rattle.nvme_entry.specs.Status.{StatusCode, success, invalid_opcode, invalid_field, invalid_namespace, lba_out_of_range}
use Rattle.nvme_entry.specs.declared.admin.AdminCommand.{AdminCommand}
use Rattle.nvme_entry.specs.declared.admin.AdminCommand.TheVariants.{DeleteSq, CreateSq, DeleteCq, CreateCq, Abort, SetFeatures, GetFeatures, Other}
use Rattle.nvme_entry.specs.declared.completion.Cqe.{Cqe}
use Rattle.nvme_entry.specs.declared.submission.Sqe.{Sqe}

-- ---- layouts
-- 64 bytes, each the number of its place
abbrev pub submission_bytes : List ℕ
submission_bytes =
    0x00 ∷ 0x01 ∷ 0x02 ∷ 0x03 ∷ 0x04 ∷ 0x05 ∷ 0x06 ∷ 0x07 ∷ 0x08 ∷ 0x09 ∷ 0x0a ∷ 0x0b ∷ 0x0c ∷ 0x0d ∷ 0x0e ∷ 0x0f
    ∷ 0x10 ∷ 0x11 ∷ 0x12 ∷ 0x13 ∷ 0x14 ∷ 0x15 ∷ 0x16 ∷ 0x17 ∷ 0x18 ∷ 0x19 ∷ 0x1a ∷ 0x1b ∷ 0x1c ∷ 0x1d ∷ 0x1e ∷ 0x1f
    ∷ 0x20 ∷ 0x21 ∷ 0x22 ∷ 0x23 ∷ 0x24 ∷ 0x25 ∷ 0x26 ∷ 0x27 ∷ 0x28 ∷ 0x29 ∷ 0x2a ∷ 0x2b ∷ 0x2c ∷ 0x2d ∷ 0x2e ∷ 0x2f
    ∷ 0x30 ∷ 0x31 ∷ 0x32 ∷ 0x33 ∷ 0x34 ∷ 0x35 ∷ 0x36 ∷ 0x37 ∷ 0x38 ∷ 0x39 ∷ 0x3a ∷ 0x3b ∷ 0x3c ∷ 0x3d ∷ 0x3e ∷ 0x3f ∷ []

-- the entry that they hold
abbrev pub submission : Sqe
submission = record {
  opcode = 0x00;
  flags = 0x01;
  cid = 0x0302;
  nsid = 0x07060504;
  cdw2 = 0x0b0a0908;
  cdw3 = 0x0f0e0d0c;
  mptr = 0x1716151413121110;
  prp1 = 0x1f1e1d1c1b1a1918;
  prp2 = 0x2726252423222120;
  cdw10 = 0x2b2a2928;
  cdw11 = 0x2f2e2d2c;
  cdw12 = 0x33323130;
  cdw13 = 0x37363534;
  cdw14 = 0x3b3a3938;
  cdw15 = 0x3f3e3d3c;
}

-- 16 bytes. The last two are the phase tag, which is set, below a Status Code of 0c and a Status Code Type of 1
abbrev pub completion_bytes : List ℕ
completion_bytes = 0x01 ∷ 0x02 ∷ 0x03 ∷ 0x04 ∷ 0 ∷ 0 ∷ 0 ∷ 0 ∷ 0x09 ∷ 0x0a ∷ 0x0b ∷ 0x0c ∷ 0x0d ∷ 0x0e ∷ 0x19 ∷ 0x02 ∷ []

-- the entry that they hold
abbrev pub completion : Cqe
completion = record {
  dw0 = 0x04030201;
  sqhd = 0x0a09;
  sqid = 0x0c0b;
  cid = 0x0e0d;
  phase = true;
  status = record { sct = 1; sc = 0x0c };
}

-- ---- commands
-- a command by its opcode, its flags, NSID and Command Dwords 10 to 12
abbrev pub command : (opcode flags nsid cdw10 cdw11 cdw12 : ℕ) → Sqe
command opcode flags nsid cdw10 cdw11 cdw12 = record {
  opcode = opcode;
  flags = flags;
  cid = 0;
  nsid = nsid;
  cdw2 = 0;
  cdw3 = 0;
  mptr = 0;
  prp1 = 0;
  prp2 = 0;
  cdw10 = cdw10;
  cdw11 = cdw11;
  cdw12 = cdw12;
  cdw13 = 0;
  cdw14 = 0;
  cdw15 = 0;
}

-- an admin command, and its fields
pub record AdminCase : Type 0 where
  pub entry : Sqe
  pub command : AdminCommand

abbrev pub names : (opcode cdw10 cdw11 : ℕ) → AdminCommand → AdminCase
names opcode cdw10 cdw11 it = record { entry = command opcode 0 0 cdw10 cdw11 0; command = it }

abbrev pub AreRead : List AdminCase → Type 0
AreRead cases = map {A = AdminCase} {B = AdminCommand} (λ c. admin_command_of c.entry) cases ≡ map {A = AdminCase} {B = AdminCommand} (λ c. c.command) cases

-- queues 3 and 2, of 256 and 16 slots; command 7 of queue 3; Number of Queues
abbrev pub admin_commands : List AdminCase
admin_commands =
    names 0x00 0x00000003 0 (DeleteSq 3)
    ∷ names 0x01 0x00ff0003 0x00020005 (CreateSq 3 255 0 2 2 true)
    ∷ names 0x04 0x00000002 0 (DeleteCq 2)
    ∷ names 0x05 0x000f0002 0x00010003 (CreateCq 2 15 0 true)
    ∷ names 0x05 0x000f0002 0x00010002 (CreateCq 2 15 0 false)
    ∷ names 0x08 0x00070003 0 (Abort 3 7)
    ∷ names 0x09 0x80000007 0x000f001f (SetFeatures 7 true 0x000f001f)
    ∷ names 0x09 0x00000007 0x000f001f (SetFeatures 7 false 0x000f001f)
    ∷ names 0x0a 0x00000107 0 (GetFeatures 7)
    ∷ names 0x02 0 0 Other
    ∷ names 0x06 0 0 Other
    ∷ []

-- an I/O command, and the status that answers it
pub record Case : Type 0 where
  pub entry : Sqe
  pub status : StatusCode

abbrev pub gives : Sqe → StatusCode → Case
gives entry status = record { entry = entry; status = status }

abbrev pub AreAnswered : List ℕ → List Case → Type 0
AreAnswered sizes cases = map {A = Case} {B = StatusCode} (λ c. outcome_of c.entry sizes) cases ≡ map {A = Case} {B = StatusCode} (λ c. c.status) cases

-- the second has 2 to the power of 32 blocks
abbrev pub two_namespaces : List ℕ
two_namespaces = 1000 ∷ 0x100000000 ∷ []

abbrev pub flush : (flags nsid : ℕ) → Sqe
flush flags nsid = command 0x00 flags nsid 0 0 0

abbrev pub write : (flags nsid cdw10 cdw11 cdw12 : ℕ) → Sqe
write flags nsid cdw10 cdw11 cdw12 = command 0x01 flags nsid cdw10 cdw11 cdw12

abbrev pub read : (flags nsid cdw10 cdw11 cdw12 : ℕ) → Sqe
read flags nsid cdw10 cdw11 cdw12 = command 0x02 flags nsid cdw10 cdw11 cdw12

-- a Flush: of each namespace, or of all
abbrev pub flushes : List Case
flushes =
    gives (flush 0 1) success
    ∷ gives (flush 0 2) success
    ∷ gives (flush 0 0xffffffff) success
    ∷ gives (flush 0 0) invalid_namespace
    ∷ gives (flush 0 3) invalid_namespace
    ∷ gives (flush 1 1) invalid_field
    ∷ []

-- commands that fail two checks or more, and the first counts: fused, of an unknown opcode, of all namespaces, and of none
abbrev pub checks_in_order : List Case
checks_in_order =
    gives (command 0x05 1 1 0 0 0) invalid_field
    ∷ gives (command 0x05 0 3 0 0 0) invalid_opcode
    ∷ gives (read 2 3 0 0 0) invalid_field
    ∷ gives (read 0 0xffffffff 0xffffffff 0 0) invalid_field
    ∷ gives (write 0 3 0xffffffff 0 0) invalid_namespace
    ∷ gives (write 0 0 0xffffffff 0 0) invalid_namespace
    ∷ []

-- ranges at the ends of namespaces. NLB is bits 15:00 of Command Dword 12 and zero based, and a sum above 64 bits doesn't wrap
abbrev pub ends_looked_at : List Case
ends_looked_at =
    gives (write 0 1 0 0 999) success
    ∷ gives (write 0 1 0 0 1000) lba_out_of_range
    ∷ gives (read 0 1 999 0 0xffff0000) success
    ∷ gives (read 0 1 999 0 1) lba_out_of_range
    ∷ gives (read 0 1 1000 0 0) lba_out_of_range
    ∷ gives (read 0 2 0xffffffff 0 0) success
    ∷ gives (read 0 2 0 1 0) lba_out_of_range
    ∷ gives (read 0 2 0xffffffff 0xffffffff 0xffff) lba_out_of_range
    ∷ []
