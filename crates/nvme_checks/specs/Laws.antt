-- What follows from the definitions alone.
use Rattle.std.specs.Prelude.{◌≡◌, ℕ, ◌+◌, ◌<◌, ◌≤◌, true, false, List, All, ◌||◌}
use Rattle.nvme_entry.specs.Outcome.{is_flush, moves_blocks, outcome_of}
use Rattle.nvme_entry.specs.Status.{success, invalid_opcode}
use Rattle.nvme_entry.specs.Submission.{fuse_of, slba_of, nlb_of}
use Rattle.nvme_entry.specs.declared.submission.Sqe.{Sqe}
use Rattle.nvme_checks.specs.Identifiers.{size_of}
use Rattle.nvme_checks.specs.Status.{psdt_of, range_of, check_of}

-- every NSID up to the number of namespaces is active
abbrev pub AllActive : List ℕ → Type 0
AllActive sizes = All (λ size. 1 ≤ size) sizes

-- over active namespaces a command with PRPs is answered as by its outcome
abbrev pub ActiveIsOutcome : Type 0
ActiveIsOutcome = (entry : Sqe) (sizes : List ℕ) → psdt_of entry ≡ 0 → AllActive sizes → check_of entry sizes ≡ outcome_of entry sizes

-- a Write or Read that isn't fused and has PRPs is answered as by its range
abbrev pub BlocksAreInRange : Type 0
BlocksAreInRange = (entry : Sqe) (sizes : List ℕ) → fuse_of entry ≡ 0 → psdt_of entry ≡ 0 → moves_blocks entry ≡ true → check_of entry sizes ≡ range_of entry sizes

-- a command that is refused by its opcode isn't fused, has PRPs, and is no Flush, Write or Read
abbrev pub RefusedByOpcode : Type 0
RefusedByOpcode = (entry : Sqe) (sizes : List ℕ) → check_of entry sizes ≡ invalid_opcode → (fuse_of entry ≡ 0) × ((psdt_of entry ≡ 0) × ((is_flush entry || moves_blocks entry) ≡ false))

-- and the other way round
abbrev pub OtherOpcodes : Type 0
OtherOpcodes = (entry : Sqe) (sizes : List ℕ) → fuse_of entry ≡ 0 → psdt_of entry ≡ 0 → (is_flush entry || moves_blocks entry) ≡ false → check_of entry sizes ≡ invalid_opcode

-- of a range that is accepted the namespace has each block
abbrev pub AcceptedFit : Type 0
AcceptedFit = (entry : Sqe) (sizes : List ℕ) → range_of entry sizes ≡ success → slba_of entry + nlb_of entry < size_of sizes entry.nsid
