use Rattle.std.proofs.Common.{refl, arith}
use Rattle.nvme_ctrl_log.proofs.WrongNotes.{kept_twice, kept_unfetched}
use Rattle.nvme_ctrl_log.proofs.laws.cookies_are_kept_once.Goals as goal

pub returns : goal.returns
returns c = record {
  told = refl;
  other_index = refl;
  other_region = refl;
  kept = record { fetched = omega arith; first = refl };
  kept_twice = kept_twice;
  kept_unfetched = kept_unfetched;
}
