-- What a Create is checked for beside its command where queues may lie anywhere in memory.
-- (Base Specification, Create I/O Completion Queue and Create I/O Submission Queue)
use Rattle.std.specs.Prelude.{ℕ, ◌%◌, ◌==◌, Bool}
use Rattle.nvme_entry.specs.Bits.{bits_of}
use Rattle.nvme_entry.specs.Status.{StatusCode, code}
use Rattle.nvme_entry.specs.declared.submission.Sqe.{Sqe}

-- Generic Command Status, PRP Offset Invalid
abbrev pub prp_offset_invalid : StatusCode
prp_offset_invalid = code 0 0x13

-- Command Specific Status, Invalid Interrupt Vector
abbrev pub invalid_interrupt_vector : StatusCode
invalid_interrupt_vector = code 1 0x08

-- IEN, whether a completion queue has interrupts: bit 01 of Command Dword 11. (Create I/O Completion Queue)
abbrev pub interrupts_of : Sqe → Bool
interrupts_of entry = bits_of 1 1 entry.cdw11 == 1

-- IV, the interrupt vector of a completion queue: bits 31:16 of Command Dword 11. (Create I/O Completion Queue)
abbrev pub vector_of : Sqe → ℕ
vector_of entry = bits_of 31 16 entry.cdw11

-- an address is a multiple of the memory page. Of a page of 0 bytes only address 0 is, since `n % 0` is n
abbrev pub is_aligned : (page address : ℕ) → Bool
is_aligned page address = address % page == 0
