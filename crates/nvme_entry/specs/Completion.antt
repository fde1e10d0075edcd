-- The completion entry layout. (Base Specification, Completion Queue Entry; that the reserved fields
-- are 0: profile)
use Rattle.std.specs.Prelude.{◌≡◌, ℕ, List, length, if◌then◌else◌}
use Rattle.nvme_entry.specs.Bits.{bits_of, dword}
use Rattle.nvme_entry.specs.declared.completion.Cqe.{Cqe}

-- the 16 bytes hold the entry: each field is the number in its bits of a dword
pub record IsCompletionEntry (bytes : List ℕ) (entry : Cqe) : Type 0 where
  pub whole : length bytes ≡ 16
  pub dw0 : entry.dw0 ≡ dword 0 bytes
  pub reserved : dword 1 bytes ≡ 0
  pub sqhd : entry.sqhd ≡ bits_of 15 0 (dword 2 bytes)
  pub sqid : entry.sqid ≡ bits_of 31 16 (dword 2 bytes)
  pub cid : entry.cid ≡ bits_of 15 0 (dword 3 bytes)
  pub phase : (if entry.phase then 1 else 0) ≡ bits_of 16 16 (dword 3 bytes)
  pub sc : entry.status.sc ≡ bits_of 24 17 (dword 3 bytes)
  pub sct : entry.status.sct ≡ bits_of 27 25 (dword 3 bytes)
  pub never_set : bits_of 31 28 (dword 3 bytes) ≡ 0
