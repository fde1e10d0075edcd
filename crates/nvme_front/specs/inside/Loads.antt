-- What the steps of a turn leave of a loaded front (profile).
use Rattle.std.specs.Prelude.{◌≡◌, ℕ, List}
use Rattle.nvme_entry.specs.declared.submission.Sqe.{Sqe}
use Rattle.nvme_front.specs.declared.state.FrontState.{FrontState}
use Rattle.nvme_log.specs.Loaded.{without_posts}
use Rattle.nvme_front.specs.LoadedFront.{IsLoadedFront, GotWithin}
use Rattle.nvme_front.specs.inside.State.{gets_of, past_of, view_of}

-- no end got anything, and no event but posts came
pub record PostsOnly (old new : FrontState) : Type 0 where
  pub gets : gets_of new.sqs.items ≡ gets_of old.sqs.items
  pub log : without_posts (past_of new) ≡ without_posts (past_of old)

-- a loaded front is one later on, where no more was got than the scripts have
abbrev pub Loads : FrontState → FrontState → Type 0
Loads old new = (scripts : ℕ → List Sqe) → GotWithin scripts (view_of new) → IsLoadedFront scripts (view_of old) → IsLoadedFront scripts (view_of new)
