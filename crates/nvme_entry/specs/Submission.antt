-- The submission entry layout. (Base Specification, Submission Queue Entry, Common Command Format)
use Rattle.std.specs.Prelude.{◌≡◌, ℕ, ◌+◌, ◌*◌, ◌^◌, List, length}
use Rattle.nvme_entry.specs.Bits.{bits_of, bytes_at}
use Rattle.nvme_entry.specs.declared.submission.Sqe.{Sqe}

-- the 64 bytes hold the entry: each field is the little-endian number of its byte places
pub record IsSubmissionEntry (bytes : List ℕ) (entry : Sqe) : Type 0 where
  pub whole : length bytes ≡ 64
  pub opcode : entry.opcode ≡ bytes_at 0 1 bytes
  pub flags : entry.flags ≡ bytes_at 1 1 bytes
  pub cid : entry.cid ≡ bytes_at 2 2 bytes
  pub nsid : entry.nsid ≡ bytes_at 4 4 bytes
  pub cdw2 : entry.cdw2 ≡ bytes_at 8 4 bytes
  pub cdw3 : entry.cdw3 ≡ bytes_at 12 4 bytes
  pub mptr : entry.mptr ≡ bytes_at 16 8 bytes
  pub prp1 : entry.prp1 ≡ bytes_at 24 8 bytes
  pub prp2 : entry.prp2 ≡ bytes_at 32 8 bytes
  pub cdw10 : entry.cdw10 ≡ bytes_at 40 4 bytes
  pub cdw11 : entry.cdw11 ≡ bytes_at 44 4 bytes
  pub cdw12 : entry.cdw12 ≡ bytes_at 48 4 bytes
  pub cdw13 : entry.cdw13 ≡ bytes_at 52 4 bytes
  pub cdw14 : entry.cdw14 ≡ bytes_at 56 4 bytes
  pub cdw15 : entry.cdw15 ≡ bytes_at 60 4 bytes

-- FUSE: bits 1:0 of the flags
abbrev pub fuse_of : Sqe → ℕ
fuse_of entry = bits_of 1 0 entry.flags

-- SLBA: Command Dword 10 is its low half, Command Dword 11 its high half.
-- (NVM Command Set Specification, Read and Write)
abbrev pub slba_of : Sqe → ℕ
slba_of entry = entry.cdw10 + entry.cdw11 * 2 ^ 32

-- NLB: bits 15:00 of Command Dword 12, zero based. (NVM Command Set Specification, Read and Write)
abbrev pub nlb_of : Sqe → ℕ
nlb_of entry = bits_of 15 0 entry.cdw12
