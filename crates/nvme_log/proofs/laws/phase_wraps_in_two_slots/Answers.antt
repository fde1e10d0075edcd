use Rattle.nvme_log.proofs.ExampleLogs.{two_slots_account, two_slots_wrong_phase}
use Rattle.nvme_log.proofs.laws.phase_wraps_in_two_slots.Goals as goal

pub returns : goal.returns
returns c = record { accounted = two_slots_account; phase_must_turn = two_slots_wrong_phase }
