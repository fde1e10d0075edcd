use Rattle.std.proofs.Common.{refl}
use Rattle.nvme_ctrl_log.proofs.ArrangedExamples.{held_account, classed_account}
use Rattle.nvme_ctrl_log.proofs.laws.arranged_queues_are_picked_so.Goals as goal

pub returns : goal.returns
returns c = record {
  urgent_first = refl;
  urgent_held = refl;
  both_held = refl;
  held_no_longer = refl;
  classed_low = refl;
  deletion = held_account;
  picked_low = classed_account;
  opened_again = refl;
  own_class_again = refl;
  other_queue = refl;
}
