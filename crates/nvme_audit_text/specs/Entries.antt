-- Entries as they stand in a line: their bytes in hexadecimal, or some of their fields.
-- (Base Specification, Submission Queue Entry, Completion Queue Entry; the form: profile)
use Rattle.std.specs.Prelude.{ℕ, ◌/◌, ◌%◌, ◌==◌, List, Option, Some, None, ok_or, option_map, option_and_then, unwrap_or, Result, Ok}
use Rattle.std.specs.Result.{result_ok}
use Rattle.hex.specs.Hex.{decode_sized}
use Rattle.serde_json.specs.Data.{Data}
use Rattle.serde_json.specs.Find.{get, as_str}
use Rattle.nvme_entry.specs.Bits.{bytes_at}
use Rattle.nvme_entry.specs.Status.{code}
use Rattle.nvme_entry.specs.declared.submission.Sqe.{Sqe}
use Rattle.nvme_audit.specs.declared.event.Completion.{Completion}
use Rattle.nvme_audit_text.specs.declared.fault.Field.TheVariants as field
use Rattle.nvme_audit_text.specs.declared.fault.LineFault.{LineFault}
use Rattle.nvme_audit_text.specs.declared.fault.LineFault.TheVariants.{Bad}
use Rattle.nvme_audit_text.specs.Fields.{text_of}
use Rattle.nvme_audit_text.specs.Readings.{◌>>=◌, number_at, maybe_at}

-- n bytes in hexadecimal
abbrev pub bytes_in : ℕ → Data → Option (List ℕ)
bytes_in n d = option_and_then (λ text. result_ok (decode_sized text n)) (as_str d)

-- ---- submission entries
-- each field is the number of its byte places
abbrev pub entry_of : List ℕ → Sqe
entry_of bytes = record {
  opcode = bytes_at 0 1 bytes;
  flags = bytes_at 1 1 bytes;
  cid = bytes_at 2 2 bytes;
  nsid = bytes_at 4 4 bytes;
  cdw2 = bytes_at 8 4 bytes;
  cdw3 = bytes_at 12 4 bytes;
  mptr = bytes_at 16 8 bytes;
  prp1 = bytes_at 24 8 bytes;
  prp2 = bytes_at 32 8 bytes;
  cdw10 = bytes_at 40 4 bytes;
  cdw11 = bytes_at 44 4 bytes;
  cdw12 = bytes_at 48 4 bytes;
  cdw13 = bytes_at 52 4 bytes;
  cdw14 = bytes_at 56 4 bytes;
  cdw15 = bytes_at 60 4 bytes;
}

-- an entry of which these fields are told: the others are 0
abbrev pub entry_with : (opcode cid cdw10 cdw11 : ℕ) → Sqe
entry_with opcode cid cdw10 cdw11 = record {
  opcode = opcode;
  flags = 0;
  cid = cid;
  nsid = 0;
  cdw2 = 0;
  cdw3 = 0;
  mptr = 0;
  prp1 = 0;
  prp2 = 0;
  cdw10 = cdw10;
  cdw11 = cdw11;
  cdw12 = 0;
  cdw13 = 0;
  cdw14 = 0;
  cdw15 = 0;
}

-- by its fields: the dwords are 0 where they aren't told
unfoldable pub entry_by_fields : Data → Result Sqe LineFault
entry_by_fields d = do
  cid ← number_at field.Cid 65535 d
  opcode ← number_at field.Op 255 d
  cdw10 ← maybe_at field.Cdw10 4294967295 d
  cdw11 ← maybe_at field.Cdw11 4294967295 d
  Ok (entry_with opcode cid (unwrap_or cdw10 0) (unwrap_or cdw11 0))

-- by its bytes where these are told
abbrev pub entry_from : Option Data → Data → Result Sqe LineFault
entry_from None d = entry_by_fields d
entry_from (Some v) d = ok_or (option_map entry_of (bytes_in 64 v)) (Bad field.Sqe)

unfoldable pub entry_in : Data → Result Sqe LineFault
entry_in d = entry_from (get (text_of field.Sqe) d) d

-- ---- completion entries
-- the status is bits 31:17 of Dword 3: the status code in its bits 7:0, its type in bits 10:8
abbrev pub completion_with : (sq cid : ℕ) → Option ℕ → Option ℕ → (status : ℕ) → Option ℕ → Completion
completion_with sq cid sqhd phase status dw0 =
    record { sq = sq; cid = cid; sqhd = sqhd; phase = option_map (λ p. p == 1) phase; status = code (status / 256 % 8) (status % 256); dw0 = dw0 }

abbrev pub completion_of : List ℕ → Completion
completion_of bytes = completion_with (bytes_at 10 2 bytes) (bytes_at 12 2 bytes) (Some (bytes_at 8 2 bytes)) (Some (bytes_at 14 2 bytes % 2)) (bytes_at 14 2 bytes / 2) (Some (bytes_at 0 4 bytes))

unfoldable pub completion_by_fields : Data → Result Completion LineFault
completion_by_fields d = do
  sq ← number_at field.Sq 65535 d
  cid ← number_at field.Cid 65535 d
  status ← number_at field.Status 32767 d
  sqhd ← maybe_at field.Sqhd 65535 d
  phase ← maybe_at field.Phase 1 d
  dw0 ← maybe_at field.Dw0 4294967295 d
  Ok (completion_with sq cid sqhd phase status dw0)

abbrev pub completion_from : Option Data → Data → Result Completion LineFault
completion_from None d = completion_by_fields d
completion_from (Some v) d = ok_or (option_map completion_of (bytes_in 16 v)) (Bad field.Cqe)

unfoldable pub completion_in : Data → Result Completion LineFault
completion_in d = completion_from (get (text_of field.Cqe) d) d
