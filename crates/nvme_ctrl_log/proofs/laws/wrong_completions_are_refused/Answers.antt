use Rattle.nvme_ctrl_log.proofs.WrongNotes.{slot_not_free, phase_stays, unanswered_admin, unanswered, other_status, out_of_turn}
use Rattle.nvme_ctrl_log.proofs.laws.wrong_completions_are_refused.Goals as goal

pub returns : goal.returns
returns c = record { slot_not_free = slot_not_free; phase_stays = phase_stays; unanswered_admin = unanswered_admin; unanswered = unanswered; other_status = other_status; out_of_turn = out_of_turn }
