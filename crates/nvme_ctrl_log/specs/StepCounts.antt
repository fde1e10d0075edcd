-- How many calls did something: all but those that tell what the host did or what the device wants (profile).
use Rattle.std.specs.Prelude.{ℕ, ◌+◌, ◌*◌, ◌≤◌, [], ◌∷◌}
use Rattle.nvme_log.specs.declared.event.Event.TheVariants.{Fetch, Pick, Post, ClosedSq}
use Rattle.nvme_log.specs.Rules.{FrontRules}
use Rattle.nvme_ctrl_log.specs.Notes.{Notes, Logged, Taken, Flagged, logged}
use Rattle.nvme_ctrl_log.specs.Tags.{all_fetches}
use Rattle.nvme_ctrl_log.specs.Account.{IsAccount}

-- each of these notes is that of one call: `fetched`, `pick`, `post`, `finish`, `take` and `complete`, in this order
abbrev pub steps : Notes → ℕ
steps [] = 0
steps (Logged (Fetch r i entry) ∷ notes) = steps notes + 1
steps (Logged (Pick seen pick) ∷ notes) = steps notes + 1
steps (Logged (Post c r i cqe) ∷ notes) = steps notes + 1
steps (Logged (ClosedSq q r) ∷ notes) = steps notes + 1
steps (Taken tag r i ∷ notes) = steps notes + 1
steps (Flagged r i flags ∷ notes) = steps notes + 1
steps (note ∷ notes) = steps notes

abbrev pub steps_each : ℕ
steps_each = 6

-- so at most six calls do something for each command that was fetched, and only commands that the host submitted are fetched (SlotsAreFetchedInOrder):
-- with no doorbell more, calls come to an end that do something
abbrev pub StepsAreFew : Type 0
StepsAreFew = (rules : FrontRules) (notes : Notes) → IsAccount rules notes → steps notes ≤ steps_each * all_fetches (logged notes)
