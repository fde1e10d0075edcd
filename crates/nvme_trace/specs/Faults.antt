-- The faults of a text, each of the line that comes next. (profile)
use Rattle.std.specs.Prelude.{◌≡◌, ◌≢◌, ◌⊎◌, ℕ, List, [], Option, Some, None, Err}
use Rattle.nvme_lines.specs.Lines.{lines_of, numbered, StartsTold}
use Rattle.nvme_trace.specs.Format.{start_of_line, event_by}
use Rattle.nvme_trace.specs.declared.basis.Basis.{Basis}
use Rattle.nvme_trace.specs.declared.fault.LineFault.{LineFault}
use Rattle.nvme_trace.specs.declared.fault.LineFault.TheVariants.{NoHead, NoMemory}
use Rattle.nvme_trace.specs.declared.fault.TraceError.{TraceError}
use Rattle.nvme_trace.specs.declared.fault.TraceError.TheVariants as error

-- the error tells this fault in the line of this number. Out of memory is told as such
abbrev pub IsLineFault : TraceError → ℕ → LineFault → Type 0
IsLineFault (error.Line line fault note) number told = (line ≡ number) × (fault ≡ told) × (told ≢ NoMemory)
IsLineFault error.Read number told = ⊥
IsLineFault error.NoMemory number told = told ≡ NoMemory

-- the first line that isn't blank, which is number n, is no head, with this fault. Where all are blank, line 1 has it
abbrev pub HasHeadFault : LineFault → ℕ → Option (List ℕ) → ℕ → Type 0
HasHeadFault fault number None n = Unit {0}
HasHeadFault fault number (Some xs) n = ((numbered number (lines_of xs) ≡ []) × (fault ≡ NoHead) × (n ≡ 1)) ⊎ StartsTold (λ line. start_of_line line ≡ Err fault) number (Some xs) n

-- after this many lines
abbrev pub IsHeadFault : TraceError → ℕ → Option (List ℕ) → Type 0
IsHeadFault (error.Line line fault note) number rest = HasHeadFault fault number rest line
IsHeadFault error.Read number rest = Unit {0}
IsHeadFault error.NoMemory number rest = Unit {0}

-- the next line that isn't blank is no event, with this fault
abbrev pub IsEventFaultBy : Basis → TraceError → ℕ → Option (List ℕ) → Type 0
IsEventFaultBy basis (error.Line line fault note) number rest = StartsTold (λ text. event_by basis text ≡ Err fault) number rest line
IsEventFaultBy basis error.Read number rest = Unit {0}
IsEventFaultBy basis error.NoMemory number rest = Unit {0}
