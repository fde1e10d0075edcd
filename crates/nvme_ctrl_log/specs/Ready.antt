-- The order in which completions become ready, which is that of their posts. (Base Specification, Completion Queue Entry; the order: profile)
use Rattle.std.specs.Prelude.{◌≡◌, ℕ, Bool, if◌then◌else◌, List, [], ◌∷◌, ◌++◌, length, Some, slice_get}
use Rattle.nvme_log.specs.declared.event.Event.{Event}
use Rattle.nvme_log.specs.declared.event.Event.TheVariants.{Abort, Post}
use Rattle.nvme_log.specs.Rules.{Past}
use Rattle.nvme_log.specs.declared.place.Place.{Place}
use Rattle.nvme_log.specs.Dispatches.{place_at}
use Rattle.nvme_log.specs.Queues.{cq_region_of}
use Rattle.nvme_log.specs.Aborts.{is_index}
use Rattle.nvme_log.specs.Completions.{posted_to}
use Rattle.nvme_ctrl_log.specs.Notes.{Notes, Logged, Answered, logged}

-- the completions of a submission region go to this completion region
abbrev pub posts_to : Past → (r c : ℕ) → Bool
posts_to past r c = is_index c (cq_region_of past r)

-- the places whose completions became ready for a completion region, in order, posted or not: their commands were answered or aborted
abbrev pub ready_in : Notes → ℕ → List Place
ready_in [] c = []
ready_in (Answered r i answer ∷ notes) c = if posts_to (logged notes) r c then ready_in notes c ++ place_at r i ∷ [] else ready_in notes c
ready_in (Logged (Abort r i) ∷ notes) c = if posts_to (logged notes) r c then ready_in notes c ++ place_at r i ∷ [] else ready_in notes c
ready_in (note ∷ notes) c = ready_in notes c

-- the nth post to a completion region is that of the nth place that became ready for it
abbrev pub PostsInOrder : Notes → Event → Type 0
PostsInOrder notes (Post c r i cqe) = slice_get (ready_in notes c) (length (posted_to (logged notes) c)) ≡ Some (place_at r i)
PostsInOrder notes e = Unit {0}
