-- A front whose hosts had submitted their whole scripts before its first turn, later on (profile).
use Rattle.std.specs.Prelude.{ℕ, ◌≤◌, List, length}
use Rattle.nvme_entry.specs.declared.submission.Sqe.{Sqe}
use Rattle.nvme_log.specs.Places.{fetched}
use Rattle.nvme_front.specs.View.{FrontView, past_in}
use Rattle.nvme_front.specs.LoadedFront.{IsLoadedFront}

-- no more was fetched from a submission region than its script has
abbrev pub FetchedWithin : (ℕ → List Sqe) → FrontView → Type 0
FetchedWithin scripts v = (r : ℕ) → length (fetched (past_in v) r) ≤ length (scripts r)

-- a loaded front is one later on, where no more was fetched than the scripts have
abbrev pub StaysLoaded : FrontView → FrontView → Type 0
StaysLoaded old new = (scripts : ℕ → List Sqe) → FetchedWithin scripts new → IsLoadedFront scripts old → IsLoadedFront scripts new
