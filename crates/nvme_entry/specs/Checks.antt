-- Checks of a command, and what they come to (profile).
use Rattle.std.specs.Prelude.{List, [], ◌∷◌, Bool, if◌then◌else◌}
use Rattle.nvme_entry.specs.Status.{StatusCode, success}

-- a check: whether a command fails it, and the status that answers it then
pub record Check : Type 0 where
  pub fails : Bool
  pub status : StatusCode

-- the status of the first check that fails, and success where none does
abbrev pub first_failed : List Check → StatusCode
first_failed [] = success
first_failed (check ∷ checks) = if check.fails then check.status else first_failed checks
