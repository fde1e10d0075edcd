use Rattle.nvme_ctrl_log.proofs.AbortNotes.{passed, taken, ended, answered, posted, read_posted, passed_waiting, posted_unaborted}
use Rattle.nvme_ctrl_log.proofs.laws.aborts_are_passed_on.Goals as goal

pub returns : goal.returns
returns c = record {
  passed = passed;
  taken = taken;
  ended = ended;
  answered = answered;
  posted = posted;
  read_posted = read_posted;
  passed_waiting = passed_waiting;
  posted_unaborted = posted_unaborted;
}
