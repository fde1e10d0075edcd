use Rattle.std.proofs.Common.{refl}
use Rattle.nvme_ctrl_log.proofs.WrongNotes.{flagged_twice, flagged_unanswered, flagged_own, flagged_posted}
use Rattle.nvme_ctrl_log.proofs.laws.flags_are_given_once.Goals as goal

pub returns : goal.returns
returns c = record {
  told = refl;
  other_index = refl;
  other_region = refl;
  flagged = record { first = refl; answered = refl; by_device = record { tag = 7; stands = refl } };
  flagged_twice = flagged_twice;
  flagged_unanswered = flagged_unanswered;
  flagged_own = flagged_own;
  flagged_posted = flagged_posted;
}
