-- What a look for a result found (profile).
use Rattle.std.specs.Prelude.{◌≡◌, ℕ, List}
use Rattle.std.specs.List.{All}
use Rattle.nvme_pool.specs.Jobs.{status_of}
use Rattle.nvme_pool.specs.Seat.{IsUnknown}
use Rattle.nvme_pool.specs.declared.jobs.Finished.{Finished}
use Rattle.nvme_jobs.specs.declared.jobs.Gained.{Gained}
use Rattle.nvme_jobs.specs.declared.jobs.Gained.TheVariants.{Nothing, Result, Stray}
use Rattle.nvme_jobs.specs.inside.Jobs.{GainsOne, GainsStray, JobsView}

-- by what a look for a result found. Where there was none, none is known to be there
abbrev pub GainsBy : List ℕ → JobsView → JobsView → Gained → Type 0
GainsBy sizes old new Nothing = (new ≡ old) × All IsUnknown old.hands.seat.ends
GainsBy sizes old new (Result d status) = (result : Finished) × (status ≡ status_of result) × GainsOne sizes old new d result
GainsBy sizes old new (Stray ticket) = GainsStray sizes old new ticket
