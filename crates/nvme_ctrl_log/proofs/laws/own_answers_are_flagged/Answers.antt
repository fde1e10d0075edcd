use Rattle.std.proofs.Common.{refl}
use Rattle.nvme_ctrl_log.proofs.laws.own_answers_are_flagged.Goals as goal

pub returns : goal.returns
returns c = record {
  invalid_opcode = refl;
  invalid_field = refl;
  sequence_error = refl;
  completion_queue_invalid = refl;
  invalid_queue_identifier = refl;
  invalid_queue_size = refl;
  feature_not_saveable = refl;
  prp_offset_invalid = refl;
  invalid_interrupt_vector = refl;
  success = refl;
  abort_requested = refl;
  aborted_by_deletion = refl;
  invalid_queue_deletion = refl;
  other = refl;
}
