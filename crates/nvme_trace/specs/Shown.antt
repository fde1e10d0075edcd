-- The events of a text that is a trace, and its first fault. That the picks are lawful is not asked. (profile)
use Rattle.std.specs.Prelude.{◌≡◌, ◌⊎◌, ℕ, List, ◌++◌, reverse, Some}
use Rattle.nvme_arbiter.specs.History.{History}
use Rattle.nvme_lines.specs.Lines.{lines_of, numbered, told_lines}
use Rattle.nvme_trace.specs.Faults.{IsHeadFault, IsEventFaultBy}
use Rattle.nvme_trace.specs.Checks.{TellsBy}
use Rattle.nvme_trace.specs.declared.basis.Basis.{Basis}
use Rattle.nvme_trace.specs.declared.basis.Basis.TheVariants.{Profile}
use Rattle.nvme_trace.specs.declared.fault.TraceError.{TraceError}
use Rattle.nvme_trace.specs.declared.records.Head.{Head}

-- the text is a head and events of which this holds. Blank lines don't matter
pub record IsShownBy (basis : Basis) (text : List ℕ) (P : Head → History → Type 0) : Type 0 where
  pub head : Head
  pub past : History
  pub tells : TellsBy basis head past (reverse (told_lines text))
  pub holds : P head past

-- this many lines of a text are a head and events, or blank, and then the other bytes follow
pub record IsReadUpToBy (basis : Basis) (text rest : List ℕ) (number : ℕ) (head : Head) (past : History) : Type 0 where
  -- those that aren't blank, the last one first
  pub lines : List (ℕ × List ℕ)
  pub split : told_lines text ≡ reverse lines ++ numbered number (lines_of rest)
  pub tells : TellsBy basis head past lines

-- a fault in a later line: all lines before it are a head and events
pub record IsLaterReadFaultBy (basis : Basis) (text : List ℕ) (error : TraceError) : Type 0 where
  pub head : Head
  pub past : History
  pub number : ℕ
  pub rest : List ℕ
  pub before : IsReadUpToBy basis text rest number head past
  pub fault : IsEventFaultBy basis error number (Some rest)

-- the error is of the first line that is faulty
abbrev pub IsReadFaultBy : Basis → List ℕ → TraceError → Type 0
IsReadFaultBy basis text error = IsHeadFault error 0 (Some text) ⊎ IsLaterReadFaultBy basis text error

-- ---- as this front writes them
abbrev pub IsReadUpTo : List ℕ → List ℕ → ℕ → Head → History → Type 0
IsReadUpTo text rest number head past = IsReadUpToBy Profile text rest number head past

abbrev pub IsReadFault : List ℕ → TraceError → Type 0
IsReadFault text error = IsReadFaultBy Profile text error
