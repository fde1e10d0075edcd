-- Worked examples, for which the definitions compute.
use Rattle.std.specs.Prelude.{◌≡◌, ℕ, List, [], ◌∷◌, map}
use Rattle.nvme_entry.specs.Status.{StatusCode, success, invalid_opcode, invalid_field, invalid_namespace, lba_out_of_range}
use Rattle.nvme_entry.specs.Examples.{command, Case, gives, flush, write, read}
use Rattle.nvme_entry.specs.declared.submission.Sqe.{Sqe}

abbrev pub AreAnswered : (Sqe → List ℕ → StatusCode) → List ℕ → List Case → Type 0
AreAnswered answer sizes cases = map {A = Case} {B = StatusCode} (λ c. answer c.entry sizes) cases ≡ map {A = Case} {B = StatusCode} (λ c. c.status) cases

-- NSID 2 is inactive, and the third namespace has 2 to the power of 32 blocks
abbrev pub three_namespaces : List ℕ
three_namespaces = 1000 ∷ 0 ∷ 0x100000000 ∷ []

-- a Flush: of each namespace that is active, or of all
abbrev pub flushes : List Case
flushes =
    gives (flush 0x00 1) success
    ∷ gives (flush 0x00 3) success
    ∷ gives (flush 0x00 0xffffffff) success
    ∷ gives (flush 0x00 2) invalid_field
    ∷ gives (flush 0x00 0) invalid_namespace
    ∷ gives (flush 0x00 4) invalid_namespace
    ∷ gives (flush 0x40 1) invalid_field
    ∷ []

-- FUSE is bits 1:0 of the flags, and PSDT bits 7:6; the bits between are reserved
abbrev pub flags_looked_at : List Case
flags_looked_at =
    gives (read 0x3c 1 0 0 0) success
    ∷ gives (read 0x01 1 0 0 0) invalid_field
    ∷ gives (read 0x02 1 0 0 0) invalid_field
    ∷ gives (read 0x40 1 0 0 0) invalid_field
    ∷ gives (write 0x80 1 0 0 0) invalid_field
    ∷ gives (write 0xc0 1 0 0 0) invalid_field
    ∷ gives (read 0x40 4 0 0 0) invalid_field
    ∷ gives (command 0x05 0x40 1 0 0 0) invalid_field
    ∷ gives (command 0x05 0x00 1 0 0 0) invalid_opcode
    ∷ gives (command 0x05 0x00 2 0 0 0) invalid_opcode
    ∷ []

-- NSIDs of a Read, each with a range that no namespace has but the third
abbrev pub identifiers_looked_at : List Case
identifiers_looked_at =
    gives (read 0 0 1000 0 0) invalid_namespace
    ∷ gives (read 0 1 1000 0 0) lba_out_of_range
    ∷ gives (read 0 2 1000 0 0) invalid_field
    ∷ gives (read 0 3 1000 0 0) success
    ∷ gives (read 0 4 1000 0 0) invalid_namespace
    ∷ gives (read 0 0xfffffffe 1000 0 0) invalid_namespace
    ∷ gives (read 0 0xffffffff 1000 0 0) invalid_field
    ∷ []

-- ranges at the ends of namespaces. NLB is bits 15:00 of Command Dword 12, and a sum above 64 bits doesn't wrap
abbrev pub ends_looked_at : List Case
ends_looked_at =
    gives (write 0 1 0 0 999) success
    ∷ gives (write 0 1 0 0 1000) lba_out_of_range
    ∷ gives (read 0 1 999 0 0) success
    ∷ gives (read 0 1 999 0 0xffff0000) success
    ∷ gives (read 0 1 999 0 1) lba_out_of_range
    ∷ gives (read 0 3 0xffffffff 0 0) success
    ∷ gives (read 0 3 0xffffffff 0 1) lba_out_of_range
    ∷ gives (read 0 3 0 1 0) lba_out_of_range
    ∷ gives (read 0 3 0xffffffff 0xffffffff 0xffff) lba_out_of_range
    ∷ []

-- Write Uncorrectable, Compare, Write Zeroes and Verify have SLBA and NLB where Write and Read do; opcode and flags aren't looked at
abbrev pub ranges : List Case
ranges =
    gives (command 0x04 0x00 1 990 0 9) success
    ∷ gives (command 0x04 0x00 1 990 0 10) lba_out_of_range
    ∷ gives (command 0x05 0x41 1 990 0 9) success
    ∷ gives (command 0x05 0x41 1 1000 0 0) lba_out_of_range
    ∷ gives (command 0x08 0x00 2 0 0 0) invalid_field
    ∷ gives (command 0x08 0x00 0xffffffff 0 0 0) invalid_field
    ∷ gives (command 0x08 0x00 3 0xffff0001 0 0xfffe) success
    ∷ gives (command 0x0c 0x00 0 0 0 0) invalid_namespace
    ∷ gives (command 0x0c 0x00 4 0 0 0) invalid_namespace
    ∷ gives (command 0x0c 0x00 3 0xffff0001 0 0xffff) lba_out_of_range
    ∷ []

-- with no namespace at all no NSID is valid
abbrev pub no_namespaces : List Case
no_namespaces =
    gives (flush 0 1) invalid_namespace
    ∷ gives (flush 0 0xffffffff) success
    ∷ gives (read 0 1 0 0 0) invalid_namespace
    ∷ []
