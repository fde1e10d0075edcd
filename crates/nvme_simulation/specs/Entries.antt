-- The entries of hosts. (NVM Command Set Specification, Flush, Write, Read; Base Specification, Create I/O Submission Queue; identifiers: profile)
use Rattle.std.specs.Prelude.{◌≡◌, ℕ, ◌-◌, ◌%◌}
use Rattle.nvme_arbiter.specs.declared.settings.Class.{Class}
use Rattle.nvme_arbiter.specs.declared.settings.Class.TheVariants.{Admin, Urgent, High, Medium, Low}
use Rattle.nvme_entry.specs.Submission.{slba_of}
use Rattle.nvme_entry.specs.declared.submission.Sqe.{Sqe}
use Rattle.nvme_load.specs.declared.mix.Operation.{Operation}
use Rattle.nvme_load.specs.declared.mix.Operation.TheVariants.{Read, Write, Flush}
use Rattle.nvme_simulation.specs.declared.flight.Request.{Request}

abbrev pub opcode_of : Operation → ℕ
opcode_of Flush = 0x00
opcode_of Write = 0x01
opcode_of Read = 0x02

-- the blocks of a command, whose number in an entry is zero based. A flush has none
abbrev pub HasBlocks : Operation → (block blocks : ℕ) → Sqe → Type 0
HasBlocks Flush block blocks entry = Unit {0}
HasBlocks op block blocks entry = (slba_of entry ≡ block) × (entry.cdw12 ≡ blocks - 1)

-- the entry of a command of namespace 1: its identifier is its number, modulo 2^16
pub record IsEntryOf (number : ℕ) (request : Request) (entry : Sqe) : Type 0 where
  pub opcode : entry.opcode ≡ opcode_of request.operation
  pub identifier : entry.cid ≡ number % 65_536
  pub namespace : entry.nsid ≡ 1
  pub blocks : HasBlocks request.operation request.block request.blocks entry

-- QPRIO of a class. (Create I/O Submission Queue, Queue Priority)
abbrev pub priority_of : Class → ℕ
priority_of Urgent = 0
priority_of High = 1
priority_of Medium = 2
priority_of Low = 3
priority_of Admin = 0

-- the class in which a Create asks for an I/O queue: none is the admin queue
abbrev pub asked_class : Class → Class
asked_class Admin = Urgent
asked_class class = class
