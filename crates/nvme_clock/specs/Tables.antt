-- Tables of quantiles: two or more, which don't fall. (profile)
use Rattle.std.specs.Prelude.{ℕ, ◌+◌, ◌-◌, ◌<◌, ◌≤◌, List, length, slice_index}
use Rattle.nvme_clock.specs.declared.quantiles.TableFault.{TableFault}
use Rattle.nvme_clock.specs.declared.quantiles.TableFault.TheVariants.{Short, Falls}

-- none of the first n values is below the one before it
abbrev pub Rises : List ℕ → ℕ → Type 0
Rises values n = (k : ℕ) → k + 1 < n → slice_index values k ≤ slice_index values (k + 1)

pub record IsTable (values : List ℕ) : Type 0 where
  pub long : 2 ≤ length values
  pub rises : Rises values (length values)

-- the first value that is below the one before it
pub record FallsAt (values : List ℕ) (at : ℕ) : Type 0 where
  pub behind_another : 0 < at
  pub within : at < length values
  pub rises_before : Rises values at
  pub falls : slice_index values at < slice_index values (at - 1)

abbrev pub TellsFault : List ℕ → TableFault → Type 0
TellsFault values Short = length values < 2
TellsFault values (Falls at) = FallsAt values at
