use Rattle.std.proofs.Common.{◌≡◌, true, false, refl}
use Rattle.nvme_log.proofs.laws.answered_picks_are_told_apart.Goals as goal

pub returns : goal.returns
returns c = record {
  read = record { of_io = λ e. cc e; picked = refl; posted = refl };
  admin = λ h. h.of_io refl;
  aborted = λ h. (let e : false ≡ true = h.picked in cc e);
  unposted = λ h. (let e : false ≡ true = h.posted in cc e);
}
