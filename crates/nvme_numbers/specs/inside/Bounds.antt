-- What bounds sums over commands. (profile)
use Rattle.std.specs.Prelude.{◌≤◌, ◌<◌, ℕ, ◌+◌}
use Rattle.nvme_numbers.specs.declared.sums.Sums.{Sums}

-- each sum is below a bound
pub record IsBelow (bound : ℕ) (s : Sums) : Type 0 where
  pub bytes : s.bytes < bound
  pub host : s.host < bound
  pub arbitration : s.arbitration < bound
  pub device : s.device < bound
  pub service : s.service < bound

-- no sum grows by 2^64 or more
pub record GrowsLittle (old new : Sums) : Type 0 where
  pub bytes : new.bytes ≤ old.bytes + 0xffff_ffff_ffff_ffff
  pub host : new.host ≤ old.host + 0xffff_ffff_ffff_ffff
  pub arbitration : new.arbitration ≤ old.arbitration + 0xffff_ffff_ffff_ffff
  pub device : new.device ≤ old.device + 0xffff_ffff_ffff_ffff
  pub service : new.service ≤ old.service + 0xffff_ffff_ffff_ffff
