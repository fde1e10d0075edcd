-- What is judged of an event after a history. (Base Specification, Command Arbitration; what is told: profile)
use Rattle.std.specs.Prelude.{◌≡◌, ◌≢◌, ℕ, ◌+◌, ◌==◌, List, [], ◌∷◌, find, Option, Some, option_map, option_and_then}
use Rattle.nvme_arbiter.specs.Settings.{ArbitrationFields}
use Rattle.nvme_arbiter.specs.Observation.{IsObservation, class_in}
use Rattle.nvme_arbiter.specs.History.{ArbitrationEvent, Picked, Changed, History}
use Rattle.nvme_arbiter.specs.Standing.{StandsAt}
use Rattle.nvme_arbiter.specs.declared.settings.Mechanism.{Mechanism}
use Rattle.nvme_arbiter.specs.declared.kept.Kept.{Kept}
use Rattle.nvme_arbiter.specs.declared.pick.Seen.{Seen}
use Rattle.nvme_trace.specs.Taken.{as_written, pick_within, IsTakenPick}
use Rattle.nvme_trace.specs.declared.judge.Finding.{Finding}

-- what an arbiter keeps, and how many picks were lawful
pub record JudgeView : Type 0 where
  pub kept : Kept
  pub picks : ℕ

-- a pick was made on an observation
abbrev pub IsObserved : ArbitrationEvent → Type 0
IsObserved (Picked seen pick) = IsObservation seen
IsObserved (Changed settings) = Unit {0}

-- a pick is taken for the lawful one in the room that is told
abbrev pub IsTakenEvent : Mechanism → ArbitrationFields → History → Option ℕ → ArbitrationEvent → Type 0
IsTakenEvent mechanism first past room (Picked seen pick) = IsTakenPick mechanism first past room seen pick
IsTakenEvent mechanism first past room (Changed settings) = Unit {0}

abbrev pub picks_of : ArbitrationEvent → ℕ
picks_of (Picked seen pick) = 1
picks_of (Changed settings) = 0

abbrev pub picks_in : History → ℕ
picks_in [] = 0
picks_in (e ∷ past) = picks_in past + picks_of e

-- how many commands wait in a queue that is seen
abbrev pub count_in : List Seen → ℕ → Option ℕ
count_in seen qid = option_map (λ s. s.count) (find (λ s. s.qid == qid) seen)

-- what is told of a pick that is not taken for the lawful one after a history, in the room that is told
pub record IsFinding (mechanism : Mechanism) (first : ArbitrationFields) (past : History) (room : Option ℕ) (event : ArbitrationEvent) (finding : Finding) : Type 0 where
  pub seen : List Seen
  -- the pick that was made
  pub event_is : event ≡ Picked seen finding.picked
  -- the lawful one, which is another, however it is written
  pub lawful_is : finding.lawful ≡ pick_within room mechanism first past seen
  pub other : finding.lawful ≢ Some (as_written mechanism past finding.picked)
  -- the class of its queue
  pub class_is : finding.class ≡ option_and_then (λ pick. class_in seen pick.qid) finding.lawful
  -- how many commands wait in it
  pub waiting_is : finding.waiting ≡ option_and_then (λ pick. count_in seen pick.qid) finding.lawful
  -- the room
  pub room_is : finding.room ≡ room
  -- what was served last, and what was used in the round
  pub kept_is : StandsAt mechanism first past finding.kept
