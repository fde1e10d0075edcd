-- A front whose hosts had submitted their whole scripts before its first turn, at any moment from then on (profile).
use Rattle.std.specs.Prelude.{◌≡◌, ℕ, ◌<◌, ◌≤◌, true, false, List, ◌∷◌, ◌++◌, length, unwrap_or}
use Rattle.nvme_entry.specs.declared.submission.Sqe.{Sqe}
use Rattle.nvme_log.specs.declared.event.Event.TheVariants.{Fetch}
use Rattle.nvme_log.specs.Rules.{Past, FrontRules}
use Rattle.nvme_log.specs.Queues.{open_sq, qid_of_region}
use Rattle.nvme_log.specs.Loaded.{without_posts, is_filled, LoadedSoFar}
use Rattle.nvme_front.specs.View.{FrontView, past_in, got_in, known_in}

-- where the newest event is a fetch, each open queue with a lower identifier than the queue that was fetched from is filled
abbrev pub FilledBelow : FrontRules → (ℕ → List Sqe) → Past → Type 0
FilledBelow rules scripts (Fetch r i entry ∷ past) =
    (q : ℕ) → q < unwrap_or (qid_of_region past r) 0 → is_filled rules scripts (Fetch r i entry ∷ past) (open_sq past q) ≡ true
FilledBelow rules scripts past = Unit {0}

-- the log, its posts left out, is a loaded log so far, and what is left of the scripts rests in the rings
pub record IsLoadedFront (scripts : ℕ → List Sqe) (v : FrontView) : Type 0 where
  -- no region was added after the first event
  pub not_late : v.late ≡ false
  pub so_far : LoadedSoFar v.rules scripts (without_posts (past_in v))
  -- what was got from a submission region, and what is known to rest in its ring, is its script
  pub scripts_are : (r : ℕ) → r < length v.gets → got_in v r ++ known_in v r ≡ scripts r
  -- a turn that stopped early stopped between two fetches of its scan
  pub below_filled : FilledBelow v.rules scripts (without_posts (past_in v))

-- no more was got from a submission region than its script has
abbrev pub GotWithin : (ℕ → List Sqe) → FrontView → Type 0
GotWithin scripts v = (r : ℕ) → length (got_in v r) ≤ length (scripts r)
