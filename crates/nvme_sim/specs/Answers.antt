-- What the program writes for what its words ask for. (profile)
use Rattle.std.specs.Prelude.{◌≡◌, ◌⊎◌, ℕ, List, Option, Ok, String}
use Rattle.std.specs.Global.{Global}
use Rattle.std.specs.Io.KnownBytes.{Appends}
use Rattle.nvme_output.specs.Written.{AppendsPrefix}
use Rattle.nvme_front.specs.declared.settled.Settled.{Settled}
use Rattle.nvme_lane.specs.declared.mode.Mode.{Mode}
use Rattle.nvme_report.specs.Report.{report_text}
use Rattle.nvme_words.specs.Once.{IsAnswer, entry_text}
use Rattle.nvme_runs.specs.Ran.{BeginsAs}
use Rattle.nvme_runs.specs.Runs.{IsRun}
use Rattle.nvme_runs.specs.declared.runs.Ran.{Ran}
use Rattle.nvme_lint.specs.Lints.{IsLawful}
use Rattle.nvme_trace.specs.Checks.{IsLawfulBy}
use Rattle.nvme_trace.specs.declared.basis.Basis.{Basis}
use Rattle.nvme_trace.specs.declared.basis.Basis.TheVariants.{Profile, Specification}
use Rattle.nvme_words.specs.CommandLine.{OnCommandLine}
use Rattle.nvme_words.specs.Requests.{IsAnswerTo}
use Rattle.nvme_words.specs.declared.requests.Request.{Request}
use Rattle.nvme_words.specs.declared.requests.Request.TheVariants as request
use Rattle.nvme_sim.specs.Files.{OfFile}
use Rattle.nvme_sim.specs.Inputs.{HasNoWarning, HasWarnings, IsDiffering, IsRefusedTrace, IsTrace, lawful_line, trace_of}

-- ---- the text of an answer to an input, where `came` says what was written

-- the answer to one entry
abbrev pub HasAnswer : (List ℕ → Type 0) → ℕ → List ℕ → Type 0
HasAnswer came blocks bytes = (line : List ℕ) × IsAnswer (entry_text bytes) blocks line × came line

-- the report of a run
abbrev pub HasReport : (List ℕ → Type 0) → Mode → List ℕ → Type 0
HasReport came mode bytes = (settled : Settled) × IsRun bytes mode settled × came (report_text mode settled)

-- the trace of a run
abbrev pub HasTrace : (List ℕ → Type 0) → Mode → List ℕ → Type 0
HasTrace came mode bytes = (ran : Ran) × BeginsAs bytes ran × IsRun bytes mode ran.settled × came (trace_of ran)

-- the text of a workload file itself
abbrev pub HasWorkload : (List ℕ → Type 0) → List ℕ → Type 0
HasWorkload came text = IsLawful text × came text

-- the line that says that each pick is allowed
abbrev pub HasLawful : (List ℕ → Type 0) → Basis → List ℕ → Type 0
HasLawful came basis bytes = (picks : ℕ) × IsLawfulBy basis bytes picks × came (lawful_line picks)

-- ---- the effect of a request, where the output was `old` and is `new`, and `contents` are its known bytes
module _ {W : Type 0} (contents : W → Option (List ℕ)) (old new : W) where
  abbrev pub Appended : List ℕ → Type 0
  Appended text = Appends (contents old) (contents new) text

  abbrev pub AppendedPart : List ℕ → Type 0
  AppendedPart text = AppendsPrefix (contents old) (contents new) text

  -- it succeeded. Nothing is said of the texts of `clap`, of a picture, of statistics and of settings
  abbrev pub Does : Request → List ℕ → Type 0
  Does (request.Once blocks) bytes = HasAnswer Appended blocks bytes
  Does (request.Run mode workers) bytes = HasReport Appended mode bytes
  Does (request.RunFile mode workers) bytes = OfFile (HasReport Appended mode) bytes
  Does request.Lint bytes = OfFile HasNoWarning bytes × (new ≡ old)
  Does request.Expand bytes = OfFile (HasWorkload Appended) bytes
  Does request.Check bytes = HasLawful Appended Profile bytes
  Does request.CheckSpec bytes = HasLawful Appended Specification bytes
  Does request.CheckAll bytes = HasLawful Appended Profile bytes
  Does (request.Trace mode workers) bytes = OfFile (HasTrace Appended mode) bytes
  Does (request.Chart drawing) bytes = IsTrace bytes
  Does (request.Stats numbers) bytes = IsTrace bytes
  Does (request.Settings reading) bytes = (x : ℕ) × (reading ≡ Ok x)
  Does (request.Unfit why) bytes = ⊥
  Does (request.Help text) bytes = Unit {0}

  -- a write of what a check answers failed. Of the text of a pick that isn't allowed nothing is said
  abbrev pub FailsToCheck : Basis → List ℕ → Type 0
  FailsToCheck basis bytes = HasLawful AppendedPart basis bytes ⊎ IsRefusedTrace basis bytes

  -- or of a check of all picks
  abbrev pub FailsToSurvey : List ℕ → Type 0
  FailsToSurvey bytes = HasLawful AppendedPart Profile bytes ⊎ IsDiffering bytes

  -- a write of its answer failed: a prefix of the answer was written. Of the texts of warnings nothing is said either
  abbrev pub FailsToWrite : Request → List ℕ → Type 0
  FailsToWrite (request.Once blocks) bytes = HasAnswer AppendedPart blocks bytes
  FailsToWrite (request.Run mode workers) bytes = HasReport AppendedPart mode bytes
  FailsToWrite (request.RunFile mode workers) bytes = OfFile (HasReport AppendedPart mode) bytes
  FailsToWrite request.Lint bytes = OfFile HasWarnings bytes
  FailsToWrite request.Expand bytes = OfFile (HasWorkload AppendedPart) bytes
  FailsToWrite request.Check bytes = FailsToCheck Profile bytes
  FailsToWrite request.CheckSpec bytes = FailsToCheck Specification bytes
  FailsToWrite request.CheckAll bytes = FailsToSurvey bytes
  FailsToWrite (request.Trace mode workers) bytes = OfFile (HasTrace AppendedPart mode) bytes
  FailsToWrite (request.Chart drawing) bytes = IsTrace bytes
  FailsToWrite (request.Stats numbers) bytes = IsTrace bytes
  FailsToWrite (request.Settings reading) bytes = (x : ℕ) × (reading ≡ Ok x)
  FailsToWrite (request.Unfit why) bytes = ⊥
  FailsToWrite (request.Help text) bytes = Unit {0}

-- the words ask for something of which P holds
abbrev pub Asked : List (String Global) → (Request → Type 0) → Type 0
Asked words P = (asked : Request) × OnCommandLine (λ app. IsAnswerTo app words (Ok asked)) × P asked
