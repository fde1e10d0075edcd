-- What is taken of a pick, and which jobs are added for it (profile).
use Rattle.std.specs.Prelude.{◌≡◌, ℕ, ◌+◌, Bool, List, [], ◌∷◌, ◌++◌, length, Some, None}
use Rattle.nvme_log.specs.Rules.{FrontRules}
use Rattle.nvme_log.specs.Places.{entry_at}
use Rattle.nvme_log.specs.Dispatches.{place_at}
use Rattle.nvme_ctrl_log.specs.Notes.{Notes, Taken, logged}
use Rattle.nvme_ctrl_log.specs.Tags.{holder, answer_of}
use Rattle.nvme_engine.specs.Standing.{StandsAt}
use Rattle.nvme_engine.specs.declared.engine.Engine.{Engine}
use Rattle.nvme_jobs.specs.declared.dispatched.Dispatched.{Dispatched}
use Rattle.nvme_jobs.specs.inside.Jobs.{JobsView}

-- the notes after these commands were taken, one after another
abbrev pub taken_notes : List Dispatched → Notes → Notes
taken_notes [] notes = notes
taken_notes (d ∷ rest) notes = taken_notes rest (Taken d.tag d.place.region d.place.index ∷ notes)

-- the jobs with these behind the others
abbrev pub with_jobs : JobsView → List Dispatched → JobsView
with_jobs j ds = record j { hands = record j.hands { unhanded = j.hands.unhanded ++ ds }; tickets = j.tickets + length ds }

-- these are the commands of a region with these indexes, with tickets that count from a number, each under a tag that stood for none
abbrev pub AreDispatched : Notes → (region ticket : ℕ) → List ℕ → List Dispatched → Type 0
AreDispatched notes region ticket [] [] = Unit {0}
AreDispatched notes region ticket (i ∷ is) (d ∷ ds) =
    (d.ticket ≡ ticket) × (d.place ≡ place_at region i) × (entry_at (logged notes) region i ≡ Some d.entry) × (holder notes d.tag ≡ None) × (answer_of notes region i ≡ None)
    × AreDispatched (Taken d.tag region i ∷ notes) region (ticket + 1) is ds
AreDispatched notes region ticket _ _ = ⊥

pub record HasDispatched (rules : FrontRules) (late : Bool) (notes : Notes) (region : ℕ) (indexes : List ℕ) (old new : JobsView) (e : Engine) : Type 0 where
  pub ds : List Dispatched
  pub are : AreDispatched notes region old.tickets indexes ds
  pub jobs : new ≡ with_jobs old ds
  pub stands : StandsAt rules late (taken_notes ds notes) e
