-- The status of an I/O command where namespaces may be inactive and there are no SGLs: that of the first check that the
-- command fails, or success. An inactive NSID is answered by Invalid Field in Command, an invalid one by Invalid
-- Namespace or Format. (Base Specification, Common Command Format, NSID and PSDT; NVM Command Set Specification, LBA
-- Out of Range; the order of the checks, PSDT in commands that transfer no data, and the broadcast identifier in
-- commands that name logical blocks: profile)
use Rattle.std.specs.Prelude.{ℕ, ◌==◌, List, [], ◌∷◌, not, ◌&&◌, ◌||◌}
use Rattle.nvme_entry.specs.Bits.{bits_of}
use Rattle.nvme_entry.specs.Checks.{Check, first_failed}
use Rattle.nvme_entry.specs.Outcome.{is_flush, moves_blocks, is_broadcast, ends_past}
use Rattle.nvme_entry.specs.Status.{StatusCode, invalid_opcode, invalid_field, invalid_namespace, lba_out_of_range}
use Rattle.nvme_entry.specs.Submission.{fuse_of}
use Rattle.nvme_entry.specs.declared.submission.Sqe.{Sqe}
use Rattle.nvme_checks.specs.Identifiers.{is_valid, is_active, size_of}

-- PSDT, whether data is described by PRPs (0) or SGLs (1 and 2; 3 is reserved): bits 7:6 of the flags
abbrev pub psdt_of : Sqe → ℕ
psdt_of entry = bits_of 7 6 entry.flags

-- the checks of a command that names logical blocks by NSID, SLBA and NLB
abbrev pub range_checks : Sqe → List ℕ → List Check
range_checks entry sizes =
    record { fails = is_broadcast entry; status = invalid_field }
    ∷ record { fails = not (is_valid sizes entry.nsid); status = invalid_namespace }
    ∷ record { fails = not (is_active sizes entry.nsid); status = invalid_field }
    ∷ record { fails = ends_past entry (size_of sizes entry.nsid); status = lba_out_of_range }
    ∷ []

abbrev pub range_of : Sqe → List ℕ → StatusCode
range_of entry sizes = first_failed (range_checks entry sizes)

-- the checks of a Flush, Write or Read, and of any other opcode those before it
abbrev pub command_checks : Sqe → List ℕ → List Check
command_checks entry sizes =
    record { fails = not (fuse_of entry == 0); status = invalid_field }
    ∷ record { fails = not (psdt_of entry == 0); status = invalid_field }
    ∷ record { fails = not (is_flush entry || moves_blocks entry); status = invalid_opcode }
    ∷ record { fails = moves_blocks entry && is_broadcast entry; status = invalid_field }
    ∷ record { fails = not (is_valid sizes entry.nsid) && not (is_flush entry && is_broadcast entry); status = invalid_namespace }
    ∷ record { fails = not (is_active sizes entry.nsid) && not (is_flush entry && is_broadcast entry); status = invalid_field }
    ∷ record { fails = moves_blocks entry && ends_past entry (size_of sizes entry.nsid); status = lba_out_of_range }
    ∷ []

abbrev pub check_of : Sqe → List ℕ → StatusCode
check_of entry sizes = first_failed (command_checks entry sizes)
