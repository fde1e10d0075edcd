-- More and Do Not Retry of a completion. (Base Specification, Completion Queue Entry: Status Field; which statuses are final: profile)
use Rattle.std.specs.Prelude.{◌==◌, ◌&&◌, Bool, false, List, [], ◌∷◌, Option, Some, None}
use Rattle.std.specs.List.{list_any}
use Rattle.nvme_entry.specs.Status.{StatusCode, invalid_opcode, invalid_field, sequence_error, completion_queue_invalid, invalid_queue_identifier, invalid_queue_size, feature_not_saveable}
use Rattle.nvme_admin.specs.Placing.{prp_offset_invalid, invalid_interrupt_vector}
use Rattle.nvme_ctrl_log.specs.declared.status_flags.StatusFlags.{StatusFlags}

abbrev pub is_status : StatusCode → StatusCode → Bool
is_status one other = one.sct == other.sct && one.sc == other.sc

-- the statuses of the controller that no retry of the same command changes
abbrev pub final_statuses : List StatusCode
final_statuses =
    invalid_opcode
    ∷ invalid_field
    ∷ sequence_error
    ∷ completion_queue_invalid
    ∷ invalid_queue_identifier
    ∷ invalid_queue_size
    ∷ feature_not_saveable
    ∷ prp_offset_invalid
    ∷ invalid_interrupt_vector ∷ []

abbrev pub is_final : StatusCode → Bool
is_final status = list_any (is_status status) final_statuses

-- the flags of what the controller answers itself
abbrev pub own_flags : StatusCode → StatusFlags
own_flags status = record { more = false; do_not_retry = is_final status }

-- the flags of a completion: those of the device where it flagged it, else those of its status
abbrev pub flags_or : StatusCode → Option StatusFlags → StatusFlags
flags_or status None = own_flags status
flags_or status (Some flags) = flags
