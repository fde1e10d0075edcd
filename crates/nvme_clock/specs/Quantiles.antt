-- What a table of quantiles holds. (profile)
use Rattle.std.specs.Prelude.{ℕ, List}
use Rattle.nvme_clock.specs.declared.quantiles.Quantiles.{Quantiles}

abbrev pub values_of : Quantiles → List ℕ
values_of q = q.values.items
