-- What the fetch of a command does that is known to come (profile).
use Rattle.std.specs.Prelude.{◌≡◌, ℕ, ◌+◌, ◌%◌, Bool, List, [], ◌∷◌, ◌++◌}
use Rattle.nvme_entry.specs.declared.submission.Sqe.{Sqe}
use Rattle.nvme_lane.specs.View.{SameGet}
use Rattle.nvme_log.specs.declared.event.Event.{Event}
use Rattle.nvme_log.specs.declared.event.Event.TheVariants.{Fetch}
use Rattle.nvme_log.specs.Rules.{FrontRules}
use Rattle.nvme_ctrl_log.specs.Notes.{Notes}
use Rattle.nvme_engine.specs.Standing.{StandsAt}
use Rattle.nvme_engine.specs.Calls.{MayFetch, HasFetched}
use Rattle.nvme_engine.specs.declared.engine.Engine.{Engine}
use Rattle.nvme_front.specs.declared.region.SqRegion.{SqRegion}

-- the command that comes next in a region is got, the engine is told of it, and the log notes it
pub record FetchesOne (qid region : ℕ) (sq sq' : SqRegion) (e e' : Engine) (log log' : List Event) : Type 0 where
  pub entry : Sqe
  pub end : SameGet sq.end sq'.end
  pub got : sq'.end.got ≡ sq.end.got ++ entry ∷ []
  pub known : sq.end.known ≡ entry ∷ sq'.end.known
  pub counted : sq'.fetched ≡ sq.fetched + 1
  pub engine : (rules : FrontRules) (late : Bool) (notes : Notes) → StandsAt rules late notes e → MayFetch rules notes qid sq.end.slots sq.fetched
      → HasFetched rules late notes qid ((sq.fetched + 1) % sq.end.slots) sq.fetched entry e'
  pub noted : log' ≡ log ++ Fetch region sq.fetched entry ∷ []
