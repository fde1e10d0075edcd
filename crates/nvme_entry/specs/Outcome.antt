-- The outcome of an I/O command: the status of the first check that it fails, or success.
-- (NVM Command Set Specification, Flush, Write and Read; the order, and the broadcast identifier in Read and
-- Write: profile)
use Rattle.std.specs.Prelude.{ℕ, ◌+◌, ◌==◌, nat_lt, List, [], ◌∷◌, Bool, not, ◌&&◌, ◌||◌, is_none, unwrap_or}
use Rattle.nvme_entry.specs.Checks.{Check, first_failed}
use Rattle.nvme_entry.specs.Status.{StatusCode, invalid_opcode, invalid_field, invalid_namespace, lba_out_of_range}
use Rattle.nvme_entry.specs.Submission.{fuse_of, slba_of, nlb_of}
use Rattle.nvme_entry.specs.Namespaces.{size_at}
use Rattle.nvme_entry.specs.declared.submission.Sqe.{Sqe}

abbrev pub is_flush : Sqe → Bool
is_flush entry = entry.opcode == 0x00

abbrev pub moves_blocks : Sqe → Bool
moves_blocks entry = (entry.opcode == 0x01) || (entry.opcode == 0x02)

abbrev pub is_broadcast : Sqe → Bool
is_broadcast entry = entry.nsid == 0xffffffff

-- the sum is one of whole numbers, and doesn't wrap
abbrev pub ends_past : Sqe → ℕ → Bool
ends_past entry size = nat_lt size (slba_of entry + nlb_of entry + 1)

abbrev pub io_checks : Sqe → List ℕ → List Check
io_checks entry sizes =
    record { fails = not (fuse_of entry == 0); status = invalid_field }
    ∷ record { fails = not (is_flush entry || moves_blocks entry); status = invalid_opcode }
    ∷ record { fails = moves_blocks entry && is_broadcast entry; status = invalid_field }
    ∷ record { fails = is_none (size_at sizes entry.nsid) && not (is_flush entry && is_broadcast entry); status = invalid_namespace }
    ∷ record { fails = moves_blocks entry && ends_past entry (unwrap_or (size_at sizes entry.nsid) 0); status = lba_out_of_range }
    ∷ []

abbrev pub outcome_of : Sqe → List ℕ → StatusCode
outcome_of entry sizes = first_failed (io_checks entry sizes)
