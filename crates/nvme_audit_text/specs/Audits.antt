-- Logs as texts, and what an audit of one answers. (profile)
use Rattle.std.specs.Prelude.{◌≡◌, ◌⊎◌, ℕ, ◌+◌, Bool, true, false, if◌then◌else◌, List, [], ◌∷◌, ◌++◌, reverse, length, map, take, Option, Some, None, Ok, Err}
use Rattle.nvme_lines.specs.Lines.{lines_of, told_lines}
use Rattle.nvme_arbiter.specs.History.{ArbitrationEvent, History}
use Rattle.nvme_judge.specs.Turns.{picks_in}
use Rattle.nvme_trace.specs.Bases.{IsBreach}
use Rattle.nvme_audit.specs.declared.event.Event.{Event}
use Rattle.nvme_audit.specs.declared.event.Event.TheVariants.{Tail, Head as HeadBell, Fetch, Post}
use Rattle.nvme_audit.specs.declared.facts.Start.{Start}
use Rattle.nvme_audit.specs.declared.verdict.Verdict.{Verdict}
use Rattle.nvme_audit.specs.declared.verdict.Verdict.TheVariants.{Kept, Host, Broken}
use Rattle.nvme_audit.specs.Lives.{Past}
use Rattle.nvme_audit.specs.Facts.{sq_after, cq_after, outstanding}
use Rattle.nvme_audit.specs.Lawful.{verdict, is_broken, IsLawfulLog}
use Rattle.nvme_audit.specs.declared.scene.Count.{Count}
use Rattle.nvme_audit.specs.Coverage.{times}
use Rattle.nvme_audit_text.specs.declared.fault.LineFault.{LineFault}
use Rattle.nvme_audit_text.specs.declared.fault.LineFault.TheVariants.{NoHead}
use Rattle.nvme_audit_text.specs.declared.fault.LogError.{LogError}
use Rattle.nvme_audit_text.specs.declared.fault.LogError.TheVariants as error
use Rattle.nvme_audit_text.specs.declared.views.View.{View}
use Rattle.nvme_audit_text.specs.declared.head.Head.{Head}
use Rattle.nvme_audit_text.specs.declared.facts.Facts.{Facts}
use Rattle.nvme_audit_text.specs.declared.audit.Finding.{Finding}
use Rattle.nvme_audit_text.specs.declared.audit.Audit.{Audit}
use Rattle.nvme_audit_text.specs.declared.audit.Broken.{Broken as Breaks}
use Rattle.nvme_audit_text.specs.declared.audit.Broken.TheVariants as broken
use Rattle.nvme_audit_text.specs.declared.picks.PickFinding.{PickFinding}
use Rattle.nvme_audit_text.specs.Format.{OfArbitration, head_of_line, said_of_line, event_of_line}
use Rattle.nvme_audit_text.specs.Names.{all_rules}
use Rattle.nvme_audit_text.specs.Picks.{arbitration_of, IsAllowedBefore}

-- ---- what is told of an event
-- what stood before it: the facts of its queues and of the outstanding command of its name
abbrev pub facts_of : Start → Past → Event → Facts
facts_of start past (Tail q slot) = record { sq = Some (sq_after start past q); cq = None; command = None }
facts_of start past (HeadBell q slot) = record { sq = None; cq = Some (cq_after start past q); command = None }
facts_of start past (Fetch q slot cid command) = record { sq = Some (sq_after start past q); cq = None; command = outstanding past q cid }
facts_of start past (Post q slot completion) = record { sq = Some (sq_after start past completion.sq); cq = Some (cq_after start past q); command = outstanding past completion.sq completion.cid }

-- with the number of its line, and what is said of it
abbrev pub finding_of : Start → Past → ℕ → Event → Finding
finding_of start past line event = record { line = line; event = event; said = verdict start past event; facts = facts_of start past event }

-- ---- the host
abbrev pub is_host : Verdict → Bool
is_host Kept = false
is_host (Host breach) = true
is_host (Broken rule) = false

-- at how many events of a log the host breaks a rule
abbrev pub host_breaches : Start → Past → ℕ
host_breaches start [] = 0
host_breaches start (event ∷ past) = host_breaches start past + (if is_host (verdict start past event) then 1 else 0)

-- what is told where it does so at the event of a line
abbrev pub host_at : Start → Past → ℕ → Option Event → List Finding
host_at start past line None = []
host_at start past line (Some event) = if is_host (verdict start past event) then finding_of start past line event ∷ [] else []

-- the most breaches of the host that are told
abbrev pub most_told : ℕ
most_told = 10

-- ---- coverage
-- of each rule, of how many events of a log it asks something
unfoldable pub asked_in : Start → Past → List Count
asked_in start past = map (λ rule. record { rule = rule; times = times start past rule }) all_rules

-- ---- the events of some lines
abbrev pub added : Option Event → Past → Past
added None past = past
added (Some event) past = event ∷ past

-- some lines after a head, the last one first, tell these events. This is found at them, the first one first
abbrev pub TellEvents : (Start → Past → ℕ → Option Event → List Finding) → View → Head → List (ℕ × List ℕ) → Past → List Finding → Type 0
TellEvents at view head [] past found = (past ≡ []) × (found ≡ [])
TellEvents at view head (line ∷ earlier) past found =
    (said : Option Event) × (before : Past) × (fewer : List Finding) × (event_of_line view head line.1 ≡ Ok said) × (past ≡ added said before)
    × (found ≡ fewer ++ at head.start before line.0 said) × TellEvents at view head earlier before fewer

-- the first lines of a text that aren't blank, before others: a head, and lines that tell the events of a lawful log. At those that are
-- found the host breaks a rule
pub record IsLawfulBefore (view : View) (text : List ℕ) (later : List (ℕ × List ℕ)) (head : Head) (past : Past) (found : List Finding) : Type 0 where
  pub first : ℕ × List ℕ
  pub lines : List (ℕ × List ℕ)
  pub split : told_lines text ≡ first ∷ reverse lines ++ later
  pub head_is : head_of_line view first.1 ≡ Ok head
  pub tells : TellEvents host_at view head lines past found
  pub lawful : IsLawfulLog head.start past

-- ---- answers
-- in the whole text the controller breaks no rule of queues, nor of arbitration
pub record IsLawfulText (view : View) (text : List ℕ) (audit : Audit) : Type 0 where
  pub head : Head
  pub past : Past
  pub found : List Finding
  pub whole : IsLawfulBefore view text [] head past found
  pub lines_are : audit.lines ≡ length (lines_of text)
  pub host_is : audit.host_breaches ≡ host_breaches head.start past
  pub told_are : audit.host.items ≡ take most_told found
  pub asked_are : audit.asked ≡ asked_in head.start past
  -- and each pick is allowed
  pub history : History
  pub allowed : IsAllowedBefore view text [] head history
  pub picks_are : audit.picks ≡ picks_in history

-- at the line of this number the controller breaks a rule of queues, and at none before any
pub record IsBrokenText (view : View) (text : List ℕ) (audit : Audit) (finding : Finding) : Type 0 where
  pub head : Head
  pub past : Past
  pub found : List Finding
  pub line : List ℕ
  pub later : List (ℕ × List ℕ)
  pub before : IsLawfulBefore view text ((finding.line, line) ∷ later) head past found
  pub lines_are : audit.lines ≡ finding.line
  pub host_is : audit.host_breaches ≡ host_breaches head.start past
  pub told_are : audit.host.items ≡ take most_told found
  pub asked_are : audit.asked ≡ asked_in head.start (finding.event ∷ past)
  pub says : event_of_line view head line ≡ Ok (Some finding.event)
  pub said_is : finding.said ≡ verdict head.start past finding.event
  pub facts_are : finding.facts ≡ facts_of head.start past finding.event
  pub broken : is_broken finding.said ≡ true
  pub history : History
  pub allowed : IsAllowedBefore view text ((finding.line, line) ∷ later) head history
  pub picks_are : audit.picks ≡ picks_in history

-- at the line of this number a pick breaks a rule of arbitration, and at none before any is broken
pub record IsUnlawfulText (view : View) (text : List ℕ) (audit : Audit) (finding : PickFinding) : Type 0 where
  pub head : Head
  pub past : Past
  pub found : List Finding
  pub history : History
  pub event : ArbitrationEvent
  pub line : List ℕ
  pub later : List (ℕ × List ℕ)
  pub allowed : IsAllowedBefore view text ((finding.line, line) ∷ later) head history
  -- nor does the line break a rule of queues
  pub lawful : IsLawfulBefore view text later head past found
  pub lines_are : audit.lines ≡ finding.line
  pub host_is : audit.host_breaches ≡ host_breaches head.start past
  pub told_are : audit.host.items ≡ take most_told found
  pub asked_are : audit.asked ≡ asked_in head.start past
  pub picks_are : audit.picks ≡ picks_in history + 1
  pub says : said_of_line view head line ≡ Ok (OfArbitration event)
  pub breach_is : IsBreach (arbitration_of head) history event finding.breach

abbrev pub IsFound : View → List ℕ → Audit → Option Breaks → Type 0
IsFound view text audit None = IsLawfulText view text audit
IsFound view text audit (Some (broken.OfQueues finding)) = IsBrokenText view text audit finding
IsFound view text audit (Some (broken.OfArbitration finding)) = IsUnlawfulText view text audit finding

-- what an audit of a text answers
abbrev pub IsAudit : View → List ℕ → Audit → Type 0
IsAudit view text audit = IsFound view text audit audit.broken

-- ---- faults
-- the first line that isn't blank is no head. Where all are blank, line 1 has the fault
pub record IsNoHead (view : View) (text : List ℕ) (line : ℕ) (fault : LineFault) : Type 0 where
  pub first : List ℕ
  pub later : List (ℕ × List ℕ)
  pub split : told_lines text ≡ (line, first) ∷ later
  pub is : head_of_line view first ≡ Err fault

-- a later line tells nothing, and before it the controller breaks no rule
pub record IsNoEvent (view : View) (text : List ℕ) (line : ℕ) (fault : LineFault) : Type 0 where
  pub head : Head
  pub past : Past
  pub found : List Finding
  pub quoted : List ℕ
  pub later : List (ℕ × List ℕ)
  pub before : IsLawfulBefore view text ((line, quoted) ∷ later) head past found
  pub history : History
  pub allowed : IsAllowedBefore view text ((line, quoted) ∷ later) head history
  pub is : event_of_line view head quoted ≡ Err fault

abbrev pub IsFaultAt : View → List ℕ → ℕ → LineFault → Type 0
IsFaultAt view text line fault = ((told_lines text ≡ []) × (line ≡ 1) × (fault ≡ NoHead)) ⊎ (IsNoHead view text line fault ⊎ IsNoEvent view text line fault)

-- the error is of the first line that is faulty
abbrev pub IsFault : View → List ℕ → LogError → Type 0
IsFault view text (error.Line line fault note) = IsFaultAt view text line fault
IsFault view text error.Read = Unit {0}
IsFault view text error.TooLong = Unit {0}
IsFault view text error.NoMemory = Unit {0}
