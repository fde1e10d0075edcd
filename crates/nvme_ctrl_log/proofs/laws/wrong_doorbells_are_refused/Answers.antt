use Rattle.nvme_ctrl_log.proofs.WrongNotes.{fetched_twice, fetched_past, tail_full, tail_past, tail_no_slot, tail_closing, head_past, head_no_slot, head_no_queue}
use Rattle.nvme_ctrl_log.proofs.laws.wrong_doorbells_are_refused.Goals as goal

pub returns : goal.returns
returns c = record { fetched_twice = fetched_twice; fetched_past = fetched_past; tail_full = tail_full; tail_past = tail_past; tail_no_slot = tail_no_slot; tail_closing = tail_closing; head_past = head_past; head_no_slot = head_no_slot; head_no_queue = head_no_queue }
