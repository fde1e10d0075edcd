use Rattle.nvme_ctrl_log.proofs.WrongNotes.{taken_out_of_turn, taken_twice, tag_in_use, unpicked, other_dw0, told_other_status, unfinished, untaken, answered_twice, other_counts, closed_early, told_early}
use Rattle.nvme_ctrl_log.proofs.laws.wrong_answers_are_refused.Goals as goal

pub returns : goal.returns
returns c = record { taken_out_of_turn = taken_out_of_turn; taken_twice = taken_twice; tag_in_use = tag_in_use; unpicked = unpicked; other_dw0 = other_dw0; other_status = told_other_status; unfinished = unfinished; untaken = untaken; answered_twice = answered_twice; other_counts = other_counts; closed_early = closed_early; told_early = told_early }
