-- The status of the program by its fault, and the inputs at which it is 1. (profile)
use Rattle.std.specs.Prelude.{◌≡◌, ◌≢◌, ◌<◌, ◌⊎◌, ℕ, List, length, Err}
use Rattle.std.specs.List.{AllPass}
use Rattle.hex.specs.Hex.{is_hex_digit}
use Rattle.nvme_workload.specs.declared.error.WorkloadError.{WorkloadError}
use Rattle.nvme_workload.specs.Plan.{workload_of}
use Rattle.nvme_words.specs.Once.{entry_text}
use Rattle.nvme_words.specs.declared.entries.OnceError.{OnceError}
use Rattle.nvme_words.specs.declared.entries.OnceError.TheVariants as entry
use Rattle.nvme_words.specs.declared.input.InputError.{InputError}
use Rattle.nvme_words.specs.declared.input.InputError.TheVariants as untaken
use Rattle.nvme_words.specs.declared.input.TheConstants.{MAX_INPUT}
use Rattle.nvme_runs.specs.declared.runs.RunError.{RunError}
use Rattle.nvme_runs.specs.declared.runs.RunError.TheVariants as run
use Rattle.nvme_trace.specs.declared.fault.TraceError.{TraceError}
use Rattle.nvme_trace.specs.declared.fault.TraceError.TheVariants as trace
use Rattle.nvme_words.specs.declared.requests.WordsError.{WordsError}
use Rattle.nvme_words.specs.declared.requests.WordsError.TheVariants as words
use Rattle.nvme_sim.specs.declared.faults.Fault.{Fault}
use Rattle.nvme_sim.specs.declared.faults.Fault.TheVariants as fault

-- the fault of the program where its words ask for nothing
abbrev pub fault_of_words : WordsError → Fault
fault_of_words (words.CommandLine text) = fault.CommandLine text
fault_of_words words.OtherWord = fault.Words
fault_of_words (words.NoMemory why) = fault.NoMemory why

-- a text that isn't an entry: the input is at fault
abbrev pub entry_status : OnceError → ℕ
entry_status entry.Length = 1
entry_status entry.Digit = 1

-- an input that wasn't taken: it is at fault only where it is too long
abbrev pub input_status : InputError → ℕ
input_status untaken.TooLong = 1
input_status untaken.Read = 3
input_status untaken.NoMemory = 3

-- a run that failed: the workload is the input's fault, the number of workers the command line's, and all else is a fault at run time
abbrev pub run_status : RunError → ℕ
run_status (run.Workload w) = 1
run_status run.Workers = 2
run_status (run.TooLong r) = 3
run_status run.NoMemory = 3
run_status (run.Front e) = 3
run_status run.GaveUp = 3
run_status run.Write = 3

-- a trace that wasn't read to its end: a line that is faulty is the input's fault
abbrev pub trace_status : TraceError → ℕ
trace_status (trace.Line line f note) = 1
trace_status trace.Read = 3
trace_status trace.NoMemory = 3

-- the status of each fault of the program
abbrev pub status_of : Fault → ℕ
status_of (fault.CommandLine e) = 2
status_of fault.Words = 2
status_of (fault.Entry e) = entry_status e
status_of (fault.Input e) = input_status e
status_of (fault.NoMemory e) = 3
status_of fault.Write = 3
status_of (fault.Run e) = run_status e
status_of (fault.Workload f) = 1
status_of (fault.Short f) = 1
status_of (fault.Trace e) = trace_status e
status_of (fault.Settings f) = 2
status_of (fault.Options f) = 2
status_of (fault.Placed w f) = 1
status_of (fault.TooLong script) = 3
status_of (fault.Front e) = 3
status_of (fault.GaveUp patience) = 3

-- an input has more bytes than are taken
abbrev pub IsTooLong : List ℕ → Type 0
IsTooLong bytes = MAX_INPUT < length bytes

-- it is no entry: it hasn't 128 digits
abbrev pub IsNoEntry : List ℕ → Type 0
IsNoEntry bytes = (length (entry_text bytes) ≢ 128) ⊎ ¬ AllPass is_hex_digit (entry_text bytes)

-- it is no workload
abbrev pub IsNoWorkload : List ℕ → Type 0
IsNoWorkload bytes = (w : WorkloadError) × (workload_of bytes ≡ Err w)

-- an input at fault where one entry is asked for
abbrev pub IsBadEntry : List ℕ → Type 0
IsBadEntry bytes = IsTooLong bytes ⊎ IsNoEntry bytes

-- an input at fault where a run is asked for
abbrev pub IsBadWorkload : List ℕ → Type 0
IsBadWorkload bytes = IsTooLong bytes ⊎ IsNoWorkload bytes
