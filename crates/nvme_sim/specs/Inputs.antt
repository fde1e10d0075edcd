-- The inputs that are at fault, by what the words ask for, and what is written of a trace. (profile)
use Rattle.std.specs.Prelude.{◌≡◌, ◌⊎◌, ℕ, ◌==◌, if◌then◌else◌, true, false, List, [], ◌∷◌, ◌++◌, Option, IfSome, String, codes, decimal}
use Rattle.std.specs.Global.{Global}
use Rattle.std.specs.Io.KnownBytes.{Appends}
use Rattle.nvme_trace.specs.Checks.{IsFaultBy, IsLawfulBy, IsRefusedBy}
use Rattle.nvme_trace.specs.Surveys.{AreNone, IsSurvey}
use Rattle.nvme_trace.specs.declared.survey.Survey.{Survey}
use Rattle.nvme_tracer.specs.Text.{trace_text}
use Rattle.nvme_trace.specs.declared.fault.LineFault.{LineFault}
use Rattle.nvme_trace.specs.declared.fault.TraceError.TheVariants as trace
use Rattle.nvme_trace.specs.declared.basis.Basis.{Basis}
use Rattle.nvme_trace.specs.declared.basis.Basis.TheVariants.{Profile, Specification}
use Rattle.nvme_trace.specs.declared.judges.Reason.{Reason}
use Rattle.nvme_trace.specs.Shown.{IsReadFaultBy, IsShownBy}
use Rattle.nvme_runs.specs.declared.runs.Ran.{Ran}
use Rattle.nvme_lint.specs.Warnings.{AreWarningsOf}
use Rattle.nvme_lint.specs.declared.warning.Warning.{Warning}
use Rattle.nvme_sim.specs.Files.{IsBadFile}
use Rattle.nvme_sim.specs.Statuses.{IsBadEntry, IsBadWorkload}
use Rattle.nvme_words.specs.Words.{asks, asks_alone, reads_file, reads_workload, shows_trace}

-- what a check judges by, as far as the words say: words that ask for a check alone ask for the profile
abbrev pub IsJudgedBy : List (String Global) → Basis → Type 0
IsJudgedBy words Profile = asks (codes "check") words ≡ true
IsJudgedBy words Specification = (asks (codes "check") words ≡ true) × (asks_alone (codes "check") words ≡ false)

-- a trace has a line with a fault, and each pick before it is allowed
abbrev pub IsFaultyTrace : Basis → List ℕ → Type 0
IsFaultyTrace basis bytes = (line : ℕ) × (fault : LineFault) × (note : String Global) × IsFaultBy basis bytes (trace.Line line fault note)

-- a trace has a pick that isn't allowed, and each pick before it is
abbrev pub IsRefusedTrace : Basis → List ℕ → Type 0
IsRefusedTrace basis bytes = (line : ℕ) × (quoted : List ℕ) × (reason : Reason) × IsRefusedBy basis bytes line quoted reason

-- a trace has picks that aren't those of this front
abbrev pub IsDiffering : List ℕ → Type 0
IsDiffering bytes = (survey : Survey) × IsSurvey bytes survey × (AreNone survey.counts → ⊥)

-- the words ask for a check with an option
abbrev pub AsksForMore : List (String Global) → Type 0
AsksForMore words = (asks (codes "check") words ≡ true) × (asks_alone (codes "check") words ≡ false)

-- a trace at fault where a check is asked for
abbrev pub IsBadTrace : Basis → List ℕ → Type 0
IsBadTrace basis bytes = IsFaultyTrace basis bytes ⊎ IsRefusedTrace basis bytes

-- the trace of a run
abbrev pub trace_of : Ran → List ℕ
trace_of ran = trace_text ran.mechanism ran.settings ran.settled.log.items

-- the line that says that this many picks are lawful
abbrev pub lawful_ending : ℕ → List ℕ
lawful_ending picks = if picks == 1 then codes " pick\n" else codes " picks\n"

abbrev pub lawful_line : ℕ → List ℕ
lawful_line picks = codes "lawful: " ++ decimal picks ++ lawful_ending picks

-- each pick of a trace is allowed, and the line of the number of its picks was written
abbrev pub IsToldBy : Basis → Option (List ℕ) → Option (List ℕ) → List ℕ → Type 0
IsToldBy basis old new bytes = (picks : ℕ) × IsLawfulBy basis bytes picks × Appends old new (lawful_line picks)

-- by the profile
abbrev pub IsToldLawful : Option (List ℕ) → Option (List ℕ) → List ℕ → Type 0
IsToldLawful old new bytes = IsToldBy Profile old new bytes

-- a text is a head and events, in which `fresh` may be missing
abbrev pub IsTrace : List ℕ → Type 0
IsTrace bytes = IsShownBy Specification bytes (λ head past. Unit {0})

-- a trace whose picks aren't judged one by one has a line with a fault, and the lines before it are a head and events
abbrev pub IsFaultyShown : Basis → List ℕ → Type 0
IsFaultyShown basis bytes = (line : ℕ) × (fault : LineFault) × (note : String Global) × IsReadFaultBy basis bytes (trace.Line line fault note)

-- a workload has warnings
abbrev pub HasWarnings : List ℕ → Type 0
HasWarnings bytes = (first : Warning) × (others : List Warning) × AreWarningsOf bytes (first ∷ others)

-- a workload has no warning
abbrev pub HasNoWarning : List ℕ → Type 0
HasNoWarning bytes = AreWarningsOf bytes []

-- an input at fault, by the word that asks for it
abbrev pub IsBadInput : List (String Global) → List ℕ → Type 0
IsBadInput words bytes = ((asks (codes "once") words ≡ true) × IsBadEntry bytes) ⊎ ((reads_workload words ≡ true) × IsBadWorkload bytes)
    ⊎ ((basis : Basis) × IsJudgedBy words basis × IsBadTrace basis bytes) ⊎ ((shows_trace words ≡ true) × IsFaultyShown Specification bytes)
    ⊎ ((reads_file words ≡ true) × IsBadFile bytes) ⊎ (AsksForMore words × (IsFaultyShown Profile bytes ⊎ IsDiffering bytes))

-- the words ask for a check, and a pick of the input isn't allowed, or isn't the one of this front
abbrev pub IsRefusedCheck : List (String Global) → Option (List ℕ) → Type 0
IsRefusedCheck words known = ((basis : Basis) × IsJudgedBy words basis × IfSome known (IsRefusedTrace basis)) ⊎ (AsksForMore words × IfSome known IsDiffering)
