-- One line more of an audit.
use Rattle.std.specs.Prelude.{◌≡◌, ◌≢◌, ◌⊎◌, ℕ, ◌+◌, Bool, true, false, List, [], ◌∷◌, length, take, Option, Some, None, Err, MatchBool}
use Rattle.nvme_lines.specs.Lines.{lines_of, numbered, StartsTold}
use Rattle.nvme_lines.specs.declared.lines.NextError.{NextError}
use Rattle.nvme_lines.specs.declared.lines.NextError.TheVariants as next
use Rattle.nvme_arbiter.specs.History.{ArbitrationEvent, Picked, Changed, History}
use Rattle.nvme_arbiter.specs.declared.settings.Mechanism.{Mechanism}
use Rattle.nvme_judge.specs.Standing.{JudgeView, JudgeStandsAt}
use Rattle.nvme_judge.specs.Turns.{picks_in}
use Rattle.nvme_trace.specs.Bases.{IsSpecifiedEvent, IsBreach}
use Rattle.nvme_trace.specs.declared.records.Head.{Head as Arbitration}
use Rattle.nvme_audit.specs.declared.event.Event.{Event}
use Rattle.nvme_audit.specs.declared.facts.Start.{Start}
use Rattle.nvme_audit.specs.declared.judge.Judge.{Judge}
use Rattle.nvme_audit.specs.declared.verdict.Verdict.{Verdict}
use Rattle.nvme_audit.specs.Lives.{Past}
use Rattle.nvme_audit.specs.Lawful.{verdict, is_broken, IsLawfulLog}
use Rattle.nvme_audit.specs.Standing.{StandsAt, GoesOnAt}
use Rattle.nvme_audit_text.specs.declared.fault.LineFault.{LineFault}
use Rattle.nvme_audit_text.specs.declared.fault.LineFault.TheVariants.{NoHead, NoMemory, TooLong}
use Rattle.nvme_audit_text.specs.declared.fault.LogError.{LogError}
use Rattle.nvme_audit_text.specs.declared.fault.LogError.TheVariants as error
use Rattle.nvme_audit_text.specs.declared.views.View.{View}
use Rattle.nvme_audit_text.specs.declared.head.Head.{Head}
use Rattle.nvme_audit_text.specs.declared.audit.Finding.{Finding}
use Rattle.nvme_audit_text.specs.declared.audit.Auditor.{Auditor}
use Rattle.nvme_audit_text.specs.declared.picks.PickFinding.{PickFinding}
use Rattle.nvme_audit_text.specs.declared.picks.PickAuditor.{PickAuditor}
use Rattle.nvme_audit_text.specs.declared.picks.WholePicks.{WholePicks}
use Rattle.nvme_audit_text.specs.Format.{Heard, OfArbitration, head_of_line, event_of_line}
use Rattle.nvme_audit_text.specs.Picks.{arbitration_of, IsAllowed, IsAllowedBefore, Span, PicksSaid, SaysOf, AreToldPicks, IsSaidBefore}
use Rattle.nvme_audit_text.specs.declared.whole.WholeAuditor.{WholeAuditor}
use Rattle.nvme_audit_text.specs.Audits.{IsLawfulBefore, facts_of, host_breaches, most_told, asked_in}
use Rattle.nvme_audit_text.specs.WholeAudits.{most_broken, AreTold, asked_whole, IsJudgedBefore}

-- a judge takes an event
pub record IsTaken (start : Start) (past : Past) (event : Event) (said : Verdict) (old new : Judge) : Type 0 where
  pub is : said ≡ verdict start past event
  pub after : MatchBool (is_broken said) (new ≡ old) (StandsAt start (event ∷ past) new)

-- an error that tells no fault of a line
abbrev pub IsOther : LogError → Type 0
IsOther (error.Line line fault note) = ⊥
IsOther error.Read = Unit {0}
IsOther error.TooLong = Unit {0}
IsOther error.NoMemory = Unit {0}

-- an auditor stands at a lawful log, with these breaches of the host
pub record AuditsAt (start : Start) (past : Past) (found : List Finding) (auditor : Auditor) : Type 0 where
  pub stands : StandsAt start past auditor.judge
  pub lawful : IsLawfulLog start past
  pub host : auditor.host_breaches ≡ host_breaches start past
  pub told : auditor.host.items ≡ take most_told found

-- what is told of an event at which the controller breaks a rule
pub record IsFinding (start : Start) (past : Past) (line : ℕ) (said : Option Event) (finding : Finding) : Type 0 where
  pub line_is : finding.line ≡ line
  pub event_is : said ≡ Some finding.event
  pub said_is : finding.said ≡ verdict start past finding.event
  pub facts_are : finding.facts ≡ facts_of start past finding.event
  pub broken : is_broken finding.said ≡ true

-- the error tells this fault in the line of this number. Out of memory is told as such
abbrev pub IsLineFault : LogError → ℕ → LineFault → Type 0
IsLineFault (error.Line line fault note) number told = (line ≡ number) × (fault ≡ told) × (told ≢ NoMemory)
IsLineFault error.Read number told = ⊥
IsLineFault error.TooLong number told = ⊥
IsLineFault error.NoMemory number told = told ≡ NoMemory

-- no line was taken, and number n comes next
abbrev pub IsStopped : LogError → NextError → ℕ → Type 0
IsStopped e next.TooLong n = IsLineFault e n TooLong
IsStopped e next.Read n = IsOther e
IsStopped e next.NoMemory n = IsOther e

-- the first line that isn't blank, which is number n, is no head, with this fault. Where all are blank, line 1 has it
abbrev pub HasHeadFault : View → LineFault → ℕ → Option (List ℕ) → ℕ → Type 0
HasHeadFault view fault number None n = Unit {0}
HasHeadFault view fault number (Some xs) n = ((numbered number (lines_of xs) ≡ []) × (fault ≡ NoHead) × (n ≡ 1)) ⊎ StartsTold (λ line. head_of_line view line ≡ Err fault) number (Some xs) n

-- after this many lines
abbrev pub IsHeadFault : View → LogError → ℕ → Option (List ℕ) → Type 0
IsHeadFault view (error.Line line fault note) number rest = HasHeadFault view fault number rest line
IsHeadFault view error.Read number rest = Unit {0}
IsHeadFault view error.TooLong number rest = Unit {0}
IsHeadFault view error.NoMemory number rest = Unit {0}

-- the next line that isn't blank tells nothing, with this fault
abbrev pub IsEventFault : View → Head → LogError → ℕ → Option (List ℕ) → Type 0
IsEventFault view head (error.Line line fault note) number rest = StartsTold (λ text. event_of_line view head text ≡ Err fault) number rest line
IsEventFault view head error.Read number rest = Unit {0}
IsEventFault view head error.TooLong number rest = Unit {0}
IsEventFault view head error.NoMemory number rest = Unit {0}

-- an auditor stands where this many lines were read
pub record IsAuditedUpTo (view : View) (text rest : List ℕ) (number : ℕ) (head : Head) (auditor : Auditor) : Type 0 where
  pub past : Past
  pub found : List Finding
  pub in_all : length (lines_of text) ≡ number + length (lines_of rest)
  pub before : IsLawfulBefore view text (numbered number (lines_of rest)) head past found
  pub audits : AuditsAt head.start past found auditor
  pub counted : auditor.asked ≡ asked_in head.start past

abbrev pub AuditedUpTo : View → List ℕ → Option (List ℕ) → ℕ → Head → Auditor → Type 0
AuditedUpTo view text None number head auditor = ⊥
AuditedUpTo view text (Some rest) number head auditor = IsAuditedUpTo view text rest number head auditor

-- ---- a whole log
-- an auditor that goes on stands at a log, with these breaches of the controller, and these of the host
pub record GoesOn (start : Start) (past : Past) (broken hosts : List Finding) (auditor : WholeAuditor) : Type 0 where
  pub stands : GoesOnAt start past auditor.judge
  pub broken_are : AreTold most_broken broken auditor.broken
  pub hosts_are : AreTold most_told hosts auditor.host
  pub asked_are : auditor.asked ≡ asked_whole start past

-- it stands where this many lines were read
pub record IsJudgedUpTo (view : View) (text rest : List ℕ) (number : ℕ) (head : Head) (auditor : WholeAuditor) : Type 0 where
  pub past : Past
  pub broken : List Finding
  pub hosts : List Finding
  pub in_all : length (lines_of text) ≡ number + length (lines_of rest)
  pub before : IsJudgedBefore view text (numbered number (lines_of rest)) head past broken hosts
  pub goes_on : GoesOn head.start past broken hosts auditor

abbrev pub JudgedUpTo : View → List ℕ → Option (List ℕ) → ℕ → Head → WholeAuditor → Type 0
JudgedUpTo view text None number head auditor = ⊥
JudgedUpTo view text (Some rest) number head auditor = IsJudgedUpTo view text rest number head auditor

-- ---- picks
-- an auditor of picks stands at a history, of which the specification allows each pick
pub record PicksAt (arbitration : Arbitration) (past : History) (auditor : PickAuditor) : Type 0 where
  pub stands : JudgeStandsAt arbitration.mechanism arbitration.settings [] past auditor.judge
  pub allowed : IsAllowed arbitration past
  pub judged : auditor.judged ≡ picks_in past

-- a judge took an event that it allows
pub record IsKeptEvent (arbitration : Arbitration) (past : History) (event : ArbitrationEvent) (judge : JudgeView) : Type 0 where
  pub stands : JudgeStandsAt arbitration.mechanism arbitration.settings [] (event ∷ past) judge
  pub allowed : IsSpecifiedEvent arbitration past event

-- what is told of a pick that it doesn't allow
pub record IsPickFinding (arbitration : Arbitration) (past : History) (line : ℕ) (event : ArbitrationEvent) (finding : PickFinding) : Type 0 where
  pub line_is : finding.line ≡ line
  pub breach_is : IsBreach arbitration past event finding.breach

-- it is that of this line
abbrev pub IsUnlawful : Arbitration → History → ℕ → Heard → PickFinding → Type 0
IsUnlawful arbitration past line said finding = (event : ArbitrationEvent) × (said ≡ OfArbitration event) × IsPickFinding arbitration past line event finding

-- it stands where this many lines were read
pub record IsAllowedUpTo (view : View) (text rest : List ℕ) (number : ℕ) (head : Head) (auditor : PickAuditor) : Type 0 where
  pub past : History
  pub before : IsAllowedBefore view text (numbered number (lines_of rest)) head past
  pub at : PicksAt (arbitration_of head) past auditor

abbrev pub AllowedUpTo : View → List ℕ → Option (List ℕ) → ℕ → Head → PickAuditor → Type 0
AllowedUpTo view text None number head auditor = ⊥
AllowedUpTo view text (Some rest) number head auditor = IsAllowedUpTo view text rest number head auditor

-- ---- the picks of a whole log
-- where picks are judged, the judge stands at the span
abbrev pub SpanIs : Mechanism → Option Span → Bool → JudgeView → Type 0
SpanIs mechanism None let_go judge = let_go ≡ true
SpanIs mechanism (Some span) let_go judge = (let_go ≡ false) × JudgeStandsAt mechanism span.settings [] span.past judge

-- an auditor that goes on, where this was said of the picks
pub record PicksGoOn (mechanism : Mechanism) (said : PicksSaid) (auditor : WholePicks) : Type 0 where
  pub mechanism_is : auditor.mechanism ≡ mechanism
  pub span : SpanIs mechanism said.span auditor.is_let_go auditor.judge
  pub found_are : AreToldPicks most_broken said.found auditor.unlawful
  pub judged_are : auditor.judged ≡ said.judged

-- it goes on with an event more, of the line of this number
abbrev pub GoesOnWith : Mechanism → ℕ → Option ArbitrationEvent → PicksSaid → WholePicks → Type 0
GoesOnWith mechanism line event said auditor = (next : PicksSaid) × SaysOf mechanism line event said next × PicksGoOn mechanism next auditor

abbrev pub IsPick : ArbitrationEvent → Type 0
IsPick (Picked seen pick) = Unit {0}
IsPick (Changed settings) = ⊥

pub record IsSaidUpTo (view : View) (text rest : List ℕ) (number : ℕ) (head : Head) (auditor : WholePicks) : Type 0 where
  pub said : PicksSaid
  pub before : IsSaidBefore view text (numbered number (lines_of rest)) head said
  pub at : PicksGoOn (arbitration_of head).mechanism said auditor

abbrev pub SaidUpTo : View → List ℕ → Option (List ℕ) → ℕ → Head → WholePicks → Type 0
SaidUpTo view text None number head auditor = ⊥
SaidUpTo view text (Some rest) number head auditor = IsSaidUpTo view text rest number head auditor
