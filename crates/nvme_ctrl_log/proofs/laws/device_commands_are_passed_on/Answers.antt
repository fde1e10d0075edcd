use Rattle.nvme_ctrl_log.proofs.PassedNotes.{passed, taken, answered, posted, passed_twice, passed_unpicked, passed_core, taken_unpassed, answered_untaken, posted_refused}
use Rattle.nvme_ctrl_log.proofs.laws.device_commands_are_passed_on.Goals as goal

pub returns : goal.returns
returns c = record {
  passed = passed;
  taken = taken;
  answered = answered;
  posted = posted;
  passed_twice = passed_twice;
  passed_unpicked = passed_unpicked;
  passed_core = passed_core;
  taken_unpassed = taken_unpassed;
  answered_untaken = answered_untaken;
  posted_refused = posted_refused;
}
