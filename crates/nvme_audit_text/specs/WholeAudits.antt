-- What an audit of a whole log answers, which goes on after breaches of the controller. (profile)
use Rattle.std.specs.Prelude.{◌≡◌, ◌⊎◌, ℕ, ◌+◌, Bool, nat_lt, if◌then◌else◌, List, [], ◌∷◌, ◌++◌, reverse, length, map, take, Option, Some, None, Ok, Err}
use Rattle.nvme_lines.specs.Lines.{lines_of, told_lines}
use Rattle.nvme_audit.specs.declared.event.Event.{Event}
use Rattle.nvme_audit.specs.declared.facts.Start.{Start}
use Rattle.nvme_audit.specs.declared.scene.Count.{Count}
use Rattle.nvme_audit.specs.declared.verdict.Verdict.{Verdict}
use Rattle.nvme_audit.specs.Lives.{Past}
use Rattle.nvme_audit.specs.Lawful.{is_broken}
use Rattle.nvme_audit.specs.Repairs.{said, times_said}
use Rattle.nvme_audit_text.specs.declared.fault.LineFault.{LineFault}
use Rattle.nvme_audit_text.specs.declared.fault.LineFault.TheVariants.{NoHead}
use Rattle.nvme_audit_text.specs.declared.fault.LogError.{LogError}
use Rattle.nvme_audit_text.specs.declared.fault.LogError.TheVariants as error
use Rattle.nvme_audit_text.specs.declared.views.View.{View}
use Rattle.nvme_audit_text.specs.declared.head.Head.{Head}
use Rattle.nvme_audit_text.specs.declared.audit.Finding.{Finding}
use Rattle.nvme_audit_text.specs.declared.audit.Broken.{Broken}
use Rattle.nvme_audit_text.specs.declared.audit.Broken.TheVariants as broken
use Rattle.nvme_audit_text.specs.declared.picks.PickFinding.{PickFinding}
use Rattle.nvme_audit_text.specs.declared.whole.Place.{Place}
use Rattle.nvme_audit_text.specs.declared.whole.Told.{Told}
use Rattle.nvme_audit_text.specs.declared.whole.WholeAudit.{WholeAudit}
use Rattle.nvme_audit_text.specs.Format.{head_of_line, event_of_line}
use Rattle.nvme_audit_text.specs.Names.{all_rules}
use Rattle.nvme_audit_text.specs.Picks.{PicksSaid, AreToldPicks, IsSaidBefore}
use Rattle.nvme_audit_text.specs.Audits.{facts_of, is_host, most_told, TellEvents, IsNoHead}

-- ---- what is told of an event
-- with the number of its line, and what is said of it
abbrev pub said_of : Start → Past → ℕ → Event → Finding
said_of start past line event = record { line = line; event = event; said = said start past event; facts = facts_of start past event }

abbrev pub told_if : (Verdict → Bool) → Finding → List Finding
told_if kind finding = if kind finding.said then finding ∷ [] else []

-- it is told where this kind of verdict is said of the event of a line
abbrev pub told_at : (Verdict → Bool) → Start → Past → ℕ → Option Event → List Finding
told_at kind start past line None = []
told_at kind start past line (Some event) = told_if kind (said_of start past line event)

-- the most breaches of the controller that are told
abbrev pub most_broken : ℕ
most_broken = 1000

-- the first of these are told, and all are counted
pub record AreTold (most : ℕ) (found : List Finding) (told : Told) : Type 0 where
  pub first_are : told.first.items ≡ take most found
  pub count_is : told.count ≡ length found

-- of each rule, of how many events of a log it asks something
unfoldable pub asked_whole : Start → Past → List Count
asked_whole start past = map (λ rule. record { rule = rule; times = times_said start past rule }) all_rules

-- ---- the events of some lines
-- the first lines of a text that aren't blank, before others: a head, and lines that tell the events of a log. At these the controller
-- breaks a rule, and at these the host
pub record IsJudgedBefore (view : View) (text : List ℕ) (later : List (ℕ × List ℕ)) (head : Head) (past : Past) (broken hosts : List Finding) : Type 0 where
  pub first : ℕ × List ℕ
  pub lines : List (ℕ × List ℕ)
  pub split : told_lines text ≡ first ∷ reverse lines ++ later
  pub head_is : head_of_line view first.1 ≡ Ok head
  pub tells_broken : TellEvents (told_at is_broken) view head lines past broken
  pub tells_hosts : TellEvents (told_at is_host) view head lines past hosts

-- ---- answers
-- what an audit of a whole text answers: the breaches in their order, each once
pub record IsWholeAudit (view : View) (text : List ℕ) (audit : WholeAudit) : Type 0 where
  pub head : Head
  pub past : Past
  pub broken : List Finding
  pub hosts : List Finding
  pub whole : IsJudgedBefore view text [] head past broken hosts
  pub lines_are : audit.lines ≡ length (lines_of text)
  pub broken_are : AreTold most_broken broken audit.broken
  pub hosts_are : AreTold most_told hosts audit.host
  pub asked_are : audit.asked ≡ asked_whole head.start past
  -- the picks are judged beside it, and go on by themselves
  pub said : PicksSaid
  pub picks : IsSaidBefore view text [] head said
  pub unlawful_are : AreToldPicks most_broken said.found audit.unlawful
  pub picks_are : audit.picks ≡ said.judged

-- ---- the breaches of the controller by their lines
-- of the next of each sort the one of the earlier line
abbrev pub earlier : Option Finding → Option PickFinding → Option Broken
earlier None None = None
earlier None (Some unlawful) = Some (broken.OfArbitration unlawful)
earlier (Some finding) None = Some (broken.OfQueues finding)
earlier (Some finding) (Some unlawful) = if nat_lt unlawful.line finding.line then Some (broken.OfArbitration unlawful) else Some (broken.OfQueues finding)

-- and the place behind it
abbrev pub behind : Broken → Place → Place
behind (broken.OfQueues finding) at = record at { broken = at.broken + 1 }
behind (broken.OfArbitration unlawful) at = record at { unlawful = at.unlawful + 1 }

-- ---- faults
-- a later line tells nothing
pub record IsLateFault (view : View) (text : List ℕ) (line : ℕ) (fault : LineFault) : Type 0 where
  pub head : Head
  pub past : Past
  pub broken : List Finding
  pub hosts : List Finding
  pub quoted : List ℕ
  pub later : List (ℕ × List ℕ)
  pub before : IsJudgedBefore view text ((line, quoted) ∷ later) head past broken hosts
  pub is : event_of_line view head quoted ≡ Err fault

abbrev pub IsWholeFaultAt : View → List ℕ → ℕ → LineFault → Type 0
IsWholeFaultAt view text line fault = ((told_lines text ≡ []) × (line ≡ 1) × (fault ≡ NoHead)) ⊎ (IsNoHead view text line fault ⊎ IsLateFault view text line fault)

-- the error is of the first line that is faulty, whatever rules were broken before it
abbrev pub IsWholeFault : View → List ℕ → LogError → Type 0
IsWholeFault view text (error.Line line fault note) = IsWholeFaultAt view text line fault
IsWholeFault view text error.Read = Unit {0}
IsWholeFault view text error.TooLong = Unit {0}
IsWholeFault view text error.NoMemory = Unit {0}
