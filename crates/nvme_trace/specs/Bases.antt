-- What the profile and the specification each ask of a trace. (Base Specification, Command Arbitration; what is told: profile)
use Rattle.std.specs.Prelude.{◌≡◌, ℕ, List, ◌++◌, Option}
use Rattle.nvme_arbiter.specs.History.{ArbitrationEvent, Picked, Changed, History, settings_after}
use Rattle.nvme_arbiter.specs.Standing.{StandsAt}
use Rattle.nvme_arbiter.specs.Specified.{IsSpecifiedPick, IsSpecifiedRun}
use Rattle.nvme_arbiter.specs.declared.pick.Seen.{Seen}
use Rattle.nvme_judge.specs.Standing.{JudgeStandsAt, IsFirstBroken, weight_left}
use Rattle.nvme_trace.specs.Taken.{IsTakenAfter}
use Rattle.nvme_trace.specs.Format.{rooms_of}
use Rattle.nvme_trace.specs.Judged.{IsTakenEvent, IsFinding, count_in}
use Rattle.nvme_trace.specs.declared.basis.Basis.{Basis}
use Rattle.nvme_trace.specs.declared.basis.Basis.TheVariants.{Profile, Specification}
use Rattle.nvme_trace.specs.declared.records.Head.{Head}
use Rattle.nvme_trace.specs.declared.judges.Breach.{Breach}
use Rattle.nvme_trace.specs.declared.judges.Reason.{Reason}
use Rattle.nvme_trace.specs.declared.judges.Reason.TheVariants.{Differs, Breaks}
use Rattle.nvme_trace.specs.declared.judges.BasisJudge.{BasisJudge}
use Rattle.nvme_trace.specs.declared.judges.BasisJudge.TheVariants as judge

-- each pick that these lines tell, after a history, is taken for the one that this front makes, or is one that the specification allows, as that history is. The specification has no room
abbrev pub IsRunBy : Basis → Head → History → History → List (ℕ × List ℕ) → Type 0
IsRunBy Profile head prior past lines = IsTakenAfter head.mechanism head.settings prior past (rooms_of lines)
IsRunBy Specification head prior past lines = IsSpecifiedRun head.mechanism head.settings (past ++ prior)

abbrev pub IsSpecifiedEvent : Head → History → ArbitrationEvent → Type 0
IsSpecifiedEvent head past (Picked seen pick) = IsSpecifiedPick head.mechanism head.settings past seen pick
IsSpecifiedEvent head past (Changed settings) = Unit {0}

-- an event is allowed after a history, in the room that is told
abbrev pub IsAllowedBy : Basis → Head → History → Option ℕ → ArbitrationEvent → Type 0
IsAllowedBy Profile head past room event = IsTakenEvent head.mechanism head.settings past room event
IsAllowedBy Specification head past room event = IsSpecifiedEvent head past event

-- what is told of a pick that the specification doesn't allow
pub record IsBreach (head : Head) (past : History) (event : ArbitrationEvent) (breach : Breach) : Type 0 where
  pub seen : List Seen
  -- the pick that was made
  pub event_is : event ≡ Picked seen breach.picked
  -- the settings then in force, and how many commands wait in its queue, where that is seen
  pub mechanism_is : breach.mechanism ≡ head.mechanism
  pub settings_are : breach.settings ≡ settings_after head.settings past
  pub waiting_is : breach.waiting ≡ count_in seen breach.picked.qid
  -- how many commands of its level are left in its round
  pub left_is : breach.left ≡ weight_left head.mechanism head.settings past seen breach.picked
  -- the first rule that it breaks
  pub broken : IsFirstBroken head.mechanism head.settings past seen breach.picked breach.rule

-- what is told of a pick that isn't allowed
abbrev pub IsReasonBy : Basis → Head → History → Option ℕ → ArbitrationEvent → Reason → Type 0
IsReasonBy Profile head past room event (Differs finding) = IsFinding head.mechanism head.settings past room event finding
IsReasonBy Specification head past room event (Breaks breach) = IsBreach head past event breach
IsReasonBy Profile head past room event (Breaks breach) = ⊥
IsReasonBy Specification head past room event (Differs finding) = ⊥

-- a judge that began after a history stands at the events since then
abbrev pub StandsBy : Basis → Head → History → History → BasisJudge → Type 0
StandsBy Profile head prior past (judge.Profile j) = StandsAt head.mechanism head.settings (past ++ prior) j.kept
StandsBy Specification head prior past (judge.Specification j) = JudgeStandsAt head.mechanism head.settings prior past j
StandsBy Profile head prior past (judge.Specification j) = ⊥
StandsBy Specification head prior past (judge.Profile j) = ⊥

abbrev pub picks_by : BasisJudge → ℕ
picks_by (judge.Profile j) = j.picks
picks_by (judge.Specification j) = j.picks
