-- The picks of a log, as the specification asks. (Base Specification, Command Arbitration; logs and answers: profile)
use Rattle.std.specs.Prelude.{◌≡◌, ◌⊎◌, ℕ, ◌+◌, List, [], ◌∷◌, ◌++◌, reverse, length, take, Option, Some, None, unwrap_or, Ok}
use Rattle.nvme_lines.specs.Lines.{told_lines}
use Rattle.nvme_arbiter.specs.Settings.{ArbitrationFields, settings_of}
use Rattle.nvme_arbiter.specs.History.{ArbitrationEvent, Picked, Changed, History}
use Rattle.nvme_arbiter.specs.Specified.{IsSpecifiedPick, IsSpecifiedRun}
use Rattle.nvme_arbiter.specs.declared.pick.Pick.{Pick}
use Rattle.nvme_arbiter.specs.declared.pick.Seen.{Seen}
use Rattle.nvme_arbiter.specs.declared.settings.Mechanism.{Mechanism}
use Rattle.nvme_arbiter.specs.declared.settings.Mechanism.TheVariants.{RoundRobin}
use Rattle.nvme_trace.specs.Bases.{IsBreach}
use Rattle.nvme_trace.specs.Judged.{IsObserved}
use Rattle.nvme_trace.specs.declared.judges.Breach.{Breach}
use Rattle.nvme_trace.specs.declared.records.Head.{Head as Arbitration}
use Rattle.nvme_audit_text.specs.declared.views.View.{View}
use Rattle.nvme_audit_text.specs.declared.head.Head.{Head}
use Rattle.nvme_audit_text.specs.declared.picks.PickFinding.{PickFinding}
use Rattle.nvme_audit_text.specs.declared.picks.ToldPicks.{ToldPicks}
use Rattle.nvme_audit_text.specs.Format.{Heard, Nothing, OfQueues, OfArbitration, head_of_line, arbitration_of_line}

-- ---- the picks that lines tell
-- by what they are judged. Where the head tells no mechanism no line tells a pick, and it is that after a reset
abbrev pub arbitration_of : Head → Arbitration
arbitration_of head = unwrap_or head.arbitration (record { mechanism = RoundRobin; settings = settings_of 0 })

-- a pick was made on an observation
abbrev pub WasObserved : Heard → Type 0
WasObserved Nothing = Unit {0}
WasObserved (OfQueues event) = Unit {0}
WasObserved (OfArbitration event) = IsObserved event

abbrev pub joined : Option ArbitrationEvent → History → History
joined None past = past
joined (Some event) past = event ∷ past

-- the picks and changes of the settings that some lines after a head tell, the last line first
abbrev pub history_of : View → Head → List (ℕ × List ℕ) → History
history_of view head [] = []
history_of view head (line ∷ earlier) = joined (arbitration_of_line view head line.1) (history_of view head earlier)

-- the specification allows each pick of a history
abbrev pub IsAllowed : Arbitration → History → Type 0
IsAllowed arbitration past = IsSpecifiedRun arbitration.mechanism arbitration.settings past

-- the first lines of a text that aren't blank, before others: a head, and lines that tell a history, each of whose picks the specification allows
pub record IsAllowedBefore (view : View) (text : List ℕ) (later : List (ℕ × List ℕ)) (head : Head) (past : History) : Type 0 where
  pub first : ℕ × List ℕ
  pub lines : List (ℕ × List ℕ)
  pub split : told_lines text ≡ first ∷ reverse lines ++ later
  pub head_is : head_of_line view first.1 ≡ Ok head
  pub past_is : past ≡ history_of view head lines
  pub allowed : IsAllowed (arbitration_of head) past

-- ---- a whole log
-- the settings since which picks are judged, and the events since then
pub record Span : Type 0 where
  pub settings : ArbitrationFields
  pub past : History

-- what was said of picks so far: none is judged where a breach let them go
pub record PicksSaid : Type 0 where
  pub span : Option Span
  pub found : List PickFinding
  pub judged : ℕ

abbrev pub nothing_said : ArbitrationFields → PicksSaid
nothing_said settings = record { span = Some (record { settings = settings; past = [] }); found = []; judged = 0 }

-- with a change of the settings picks are judged again
abbrev pub span_after : ArbitrationFields → Option Span → Span
span_after settings None = record { settings = settings; past = [] }
span_after settings (Some span) = record span { past = Changed settings ∷ span.past }

-- a pick is judged, and counts: the specification allows it, or it is told and lets the picks go
abbrev pub SaysOfPick : Mechanism → ℕ → List Seen → Pick → Option Span → PicksSaid → PicksSaid → Type 0
SaysOfPick mechanism line seen pick None old new = new ≡ old
SaysOfPick mechanism line seen pick (Some span) old new =
    (IsSpecifiedPick mechanism span.settings span.past seen pick
    × (new ≡ record { span = Some (record span { past = Picked seen pick ∷ span.past }); found = old.found; judged = old.judged + 1 }))
    ⊎ ((breach : Breach) × IsBreach (record { mechanism = mechanism; settings = span.settings }) span.past (Picked seen pick) breach
    × (new ≡ record { span = None; found = old.found ++ record { line = line; breach = breach } ∷ []; judged = old.judged + 1 }))

-- the line of this number tells one event more
abbrev pub SaysOf : Mechanism → ℕ → Option ArbitrationEvent → PicksSaid → PicksSaid → Type 0
SaysOf mechanism line None old new = new ≡ old
SaysOf mechanism line (Some (Changed settings)) old new = new ≡ record old { span = Some (span_after settings old.span) }
SaysOf mechanism line (Some (Picked seen pick)) old new = SaysOfPick mechanism line seen pick old.span old new

-- this is said of some lines after a head, the last one first
abbrev pub SaysOfLines : View → Head → List (ℕ × List ℕ) → PicksSaid → Type 0
SaysOfLines view head [] said = said ≡ nothing_said (arbitration_of head).settings
SaysOfLines view head (line ∷ earlier) said =
    (before : PicksSaid) × SaysOf (arbitration_of head).mechanism line.0 (arbitration_of_line view head line.1) before said × SaysOfLines view head earlier before

-- the first of these are told, and all are counted
pub record AreToldPicks (most : ℕ) (found : List PickFinding) (told : ToldPicks) : Type 0 where
  pub first_are : told.first.items ≡ take most found
  pub count_is : told.count ≡ length found

-- the first lines of a text that aren't blank, before others: a head, and lines of whose picks this is said
pub record IsSaidBefore (view : View) (text : List ℕ) (later : List (ℕ × List ℕ)) (head : Head) (said : PicksSaid) : Type 0 where
  pub first : ℕ × List ℕ
  pub lines : List (ℕ × List ℕ)
  pub split : told_lines text ≡ first ∷ reverse lines ++ later
  pub head_is : head_of_line view first.1 ≡ Ok head
  pub says : SaysOfLines view head lines said
