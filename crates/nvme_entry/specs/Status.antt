-- Status values. (Base Specification, Status Field; the names are those of its tables of status codes)
use Rattle.std.specs.Prelude.{ℕ}

-- a status code type and a status code
pub record StatusCode : Type 0 where
  pub sct : ℕ
  pub sc : ℕ

abbrev pub code : ℕ → ℕ → StatusCode
code sct sc = record { sct = sct; sc = sc }

-- Generic Command Status
abbrev pub success : StatusCode
success = code 0 0x00

abbrev pub invalid_opcode : StatusCode
invalid_opcode = code 0 0x01

abbrev pub invalid_field : StatusCode
invalid_field = code 0 0x02

abbrev pub abort_requested : StatusCode
abort_requested = code 0 0x07

abbrev pub aborted_by_deletion : StatusCode
aborted_by_deletion = code 0 0x08

abbrev pub invalid_namespace : StatusCode
invalid_namespace = code 0 0x0b

abbrev pub sequence_error : StatusCode
sequence_error = code 0 0x0c

abbrev pub lba_out_of_range : StatusCode
lba_out_of_range = code 0 0x80

-- Command Specific Status
abbrev pub completion_queue_invalid : StatusCode
completion_queue_invalid = code 1 0x00

abbrev pub invalid_queue_identifier : StatusCode
invalid_queue_identifier = code 1 0x01

abbrev pub invalid_queue_size : StatusCode
invalid_queue_size = code 1 0x02

abbrev pub invalid_queue_deletion : StatusCode
invalid_queue_deletion = code 1 0x0c

abbrev pub feature_not_saveable : StatusCode
feature_not_saveable = code 1 0x0d
