-- What a check of a text answers. (Base Specification, Command Arbitration; texts and answers: profile)
use Rattle.std.specs.Prelude.{◌≡◌, ◌⊎◌, ℕ, List, [], ◌∷◌, ◌++◌, reverse, Option, Some, None, Result, Ok, Err}
use Rattle.nvme_arbiter.specs.History.{ArbitrationEvent, History}
use Rattle.nvme_arbiter.specs.Lawful.{IsLawfulRun}
use Rattle.nvme_lines.specs.Lines.{lines_of, numbered, told_lines}
use Rattle.nvme_trace.specs.Format.{head_of_line, head_of_kept, head_by, start_of_line, event_by, room_of_line, rooms_of}
use Rattle.nvme_trace.specs.Faults.{IsHeadFault, IsEventFaultBy}
use Rattle.nvme_trace.specs.Judged.{picks_in}
use Rattle.nvme_trace.specs.Taken.{TellNoRoom}
use Rattle.nvme_trace.specs.Bases.{IsRunBy, IsReasonBy, StandsBy, picks_by}
use Rattle.nvme_trace.specs.declared.basis.Basis.{Basis}
use Rattle.nvme_trace.specs.declared.basis.Basis.TheVariants.{Profile, Specification}
use Rattle.nvme_arbiter.specs.declared.kept.Kept.{Kept}
use Rattle.nvme_judge.specs.Standing.{IsQuiet}
use Rattle.nvme_judge.specs.Starts.{IsPrior}
use Rattle.nvme_trace.specs.declared.fault.LineFault.{LineFault}
use Rattle.nvme_trace.specs.declared.fault.LineFault.TheVariants.{NoHead}
use Rattle.nvme_trace.specs.declared.fault.TraceError.{TraceError}
use Rattle.nvme_trace.specs.declared.records.Head.{Head}
use Rattle.nvme_trace.specs.declared.judges.Reason.{Reason}
use Rattle.nvme_trace.specs.declared.judges.BasisJudge.{BasisJudge}
use Rattle.nvme_trace.specs.declared.verdicts.Checked.{Checked}
use Rattle.nvme_trace.specs.declared.verdicts.Checked.TheVariants.{Lawful, Refused}

-- some lines, the last one first, each behind its number, are a head and then the events of a history
abbrev pub TellsBy : Basis → Head → History → List (ℕ × List ℕ) → Type 0
TellsBy basis head [] lines = (line : ℕ × List ℕ) × (lines ≡ line ∷ []) × (head_by line.1 ≡ Ok head)
TellsBy basis head (e ∷ past) lines = (line : ℕ × List ℕ) × (earlier : List (ℕ × List ℕ)) × (lines ≡ line ∷ earlier) × (event_by basis line.1 ≡ Ok e) × TellsBy basis head past earlier

-- as this front writes them: the head tells no state
abbrev pub Tells : Head → History → List (ℕ × List ℕ) → Type 0
Tells head [] lines = (line : ℕ × List ℕ) × (lines ≡ line ∷ []) × (head_of_line line.1 ≡ Ok head)
Tells head (e ∷ past) lines = (line : ℕ × List ℕ) × (earlier : List (ℕ × List ℕ)) × (lines ≡ line ∷ earlier) × (event_by Profile line.1 ≡ Ok e) × Tells head past earlier

-- what the first of some lines says that an arbiter kept
abbrev pub start_of_told : List (ℕ × List ℕ) → Result Kept LineFault
start_of_told [] = Err NoHead
start_of_told (line ∷ later) = start_of_line line.1

-- a history after which the arbiter kept what the head of a text tells
abbrev pub BeginsAfter : List ℕ → Head → History → Type 0
BeginsAfter text head prior = (start : Kept) × (start_of_told (told_lines text) ≡ Ok start) × (head_of_kept start ≡ head) × IsPrior start prior

-- this many lines of a text are a head and the events of a history in which each pick is allowed, or blank, and then the other bytes follow. The trace begins after `prior`
pub record IsLawfulUpTo (basis : Basis) (text rest : List ℕ) (number : ℕ) (head : Head) (prior past : History) : Type 0 where
  -- those that aren't blank, the last one first
  pub lines : List (ℕ × List ℕ)
  pub split : told_lines text ≡ reverse lines ++ numbered number (lines_of rest)
  pub tells : TellsBy basis head past lines
  pub begins : BeginsAfter text head prior
  pub lawful : IsRunBy basis head prior past lines

-- the text is a head and the events of a history with this many picks, each of which is allowed after some history that leaves the state of the head. Blank lines don't matter
pub record IsLawfulBy (basis : Basis) (text : List ℕ) (picks : ℕ) : Type 0 where
  pub head : Head
  -- the events that the text tells, and those before it
  pub past : History
  pub prior : History
  pub tells : TellsBy basis head past (reverse (told_lines text))
  pub begins : BeginsAfter text head prior
  pub lawful : IsRunBy basis head prior past (reverse (told_lines text))
  pub picks_are : picks ≡ picks_in past

-- the text is a head and the events of a lawful history with this many picks, as this front writes them: no line tells a room
pub record IsLawfulText (text : List ℕ) (picks : ℕ) : Type 0 where
  pub head : Head
  pub past : History
  pub tells : Tells head past (reverse (told_lines text))
  pub no_room : TellNoRoom (rooms_of (reverse (told_lines text)))
  pub lawful : IsLawfulRun head.mechanism head.settings past
  pub picks_are : picks ≡ picks_in past

-- the line of this number, with this text, is the first whose pick is not allowed, after a history that leaves the state of the head and no queue waiting. So it is after none (law `texts_have_one_answer`)
pub record IsRefusedBy (basis : Basis) (text : List ℕ) (line : ℕ) (quoted : List ℕ) (reason : Reason) : Type 0 where
  pub head : Head
  pub past : History
  pub prior : History
  pub event : ArbitrationEvent
  -- the lines after it that aren't blank
  pub later : List (ℕ × List ℕ)
  -- those before it, the last one first
  pub earlier : List (ℕ × List ℕ)
  pub split : told_lines text ≡ reverse earlier ++ (line, quoted) ∷ later
  pub tells : TellsBy basis head past earlier
  pub begins : BeginsAfter text head prior
  pub quiet : IsQuiet prior
  pub lawful : IsRunBy basis head prior past earlier
  pub says : event_by basis quoted ≡ Ok event
  pub reason_is : IsReasonBy basis head (past ++ prior) (room_of_line quoted) event reason

-- what a check of a text answers
abbrev pub IsAnswer : Basis → List ℕ → Checked → Type 0
IsAnswer basis text (Lawful picks) = IsLawfulBy basis text picks
IsAnswer basis text (Refused refusal) = IsRefusedBy basis text refusal.line refusal.quoted.items refusal.reason

-- a fault in a later line: in the lines before it each pick is allowed
pub record IsLaterFault (basis : Basis) (text : List ℕ) (error : TraceError) : Type 0 where
  pub head : Head
  pub past : History
  pub prior : History
  pub number : ℕ
  pub rest : List ℕ
  pub before : IsLawfulUpTo basis text rest number head prior past
  pub fault : IsEventFaultBy basis error number (Some rest)

-- the error is of the first line that is faulty, and before it each pick is allowed
abbrev pub IsFaultBy : Basis → List ℕ → TraceError → Type 0
IsFaultBy basis text error = IsHeadFault error 0 (Some text) ⊎ IsLaterFault basis text error

-- a judge stands where this many lines were read
pub record IsJudgedUpTo (basis : Basis) (text rest : List ℕ) (number : ℕ) (head : Head) (judge : BasisJudge) : Type 0 where
  pub past : History
  pub prior : History
  pub before : IsLawfulUpTo basis text rest number head prior past
  pub quiet : IsQuiet prior
  pub stands : StandsBy basis head prior past judge
  pub picks : picks_by judge ≡ picks_in past

abbrev pub JudgedUpTo : Basis → List ℕ → Option (List ℕ) → ℕ → Head → BasisJudge → Type 0
JudgedUpTo basis text None number head judge = ⊥
JudgedUpTo basis text (Some rest) number head judge = IsJudgedUpTo basis text rest number head judge

-- what is allowed after one history that leaves the state of the head is allowed after each that leaves no queue waiting
abbrev pub AllowedAfterEach : Type 0
AllowedAfterEach = (basis : Basis) (text : List ℕ) (picks : ℕ) (is : IsLawfulBy basis text picks) (prior : History) → BeginsAfter text is.head prior → IsQuiet prior → IsRunBy basis is.head prior is.past (reverse (told_lines text))

-- where the head tells no state, nothing is such a history
abbrev pub NothingIsBefore : Type 0
NothingIsBefore = (text : List ℕ) (line : ℕ × List ℕ) (later : List (ℕ × List ℕ)) (head : Head) → told_lines text ≡ line ∷ later → head_of_line line.1 ≡ Ok head → BeginsAfter text head [] × IsQuiet []

-- where each pick of a text is allowed after some history, none of its lines has a pick that is not
abbrev pub OneAnswer : Type 0
OneAnswer = (basis : Basis) (text : List ℕ) (picks line : ℕ) (quoted : List ℕ) (reason : Reason) → IsLawfulBy basis text picks → IsRefusedBy basis text line quoted reason → ⊥

-- what this front writes the profile allows
abbrev pub LawfulTextsPass : Type 0
LawfulTextsPass = (text : List ℕ) (picks : ℕ) → IsLawfulText text picks → IsLawfulBy Profile text picks

-- what the profile allows the specification allows
abbrev pub LawfulTextsAreAllowed : Type 0
LawfulTextsAreAllowed = (text : List ℕ) (picks : ℕ) → IsLawfulBy Profile text picks → IsLawfulBy Specification text picks

-- a text that is written as this front writes it is read so where `fresh` may be missing too
abbrev pub TextsAreReadAsWritten : Type 0
TextsAreReadAsWritten = (text : List ℕ) (head other : Head) (past events : History) → Tells head past (reverse (told_lines text)) → TellsBy Specification other events (reverse (told_lines text)) → (other ≡ head) × (events ≡ past)

-- so is a text that the profile reads
abbrev pub TextsAreReadAlike : Type 0
TextsAreReadAlike = (text : List ℕ) (head other : Head) (past events : History) → TellsBy Profile head past (reverse (told_lines text)) → TellsBy Specification other events (reverse (told_lines text)) → (other ≡ head) × (events ≡ past)
