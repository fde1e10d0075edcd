-- A host that keeps its duties, as the judge sees them. (Base Specification, Submission Queue y Tail Doorbell, Completion Queue y Head
-- Doorbell, Full Queue, Command Identifier)
use Rattle.std.specs.Prelude.{◌≡◌, false, ℕ, true, is_some, Some}
use Rattle.nvme_audit.specs.declared.event.Event.{Event}
use Rattle.nvme_audit.specs.declared.event.Event.TheVariants.{Tail, Head, Fetch}
use Rattle.nvme_audit.specs.declared.facts.Start.{Start}
use Rattle.nvme_audit.specs.Lives.{Past, asked, turns_sq}
use Rattle.nvme_audit.specs.Queues.{ring_of, qsize_of, turns_cq}
use Rattle.nvme_audit.specs.Early.{is_early}
use Rattle.nvme_entry.specs.declared.admin.AdminCommand.{AdminCommand}
use Rattle.nvme_own_log.specs.Shown.{EachShown}

-- a command is fetched under an identifier of its queue that is free
abbrev pub IsFreeName : Past → Event → Type 0
IsFreeName past (Fetch sq slot cid command) = is_some (asked past sq cid) ≡ false
IsFreeName past e = Unit {0}

-- the host keeps the identifiers of outstanding commands apart, in each queue
abbrev pub NamesAreFree : Past → Type 0
NamesAreFree log = EachShown IsFreeName log

-- a Create or a Delete of a submission queue is fetched while no other of that queue is outstanding: no log tells which of two takes effect first
abbrev pub ComesAlone : Past → ℕ → AdminCommand → Type 0
ComesAlone past sq command = sq ≡ 0 → (cid : ℕ) (other : AdminCommand) → asked past 0 cid ≡ Some other → (q : ℕ) → turns_sq command q ≡ true → turns_sq other q ≡ true → ⊥

-- a host waits for completions: it writes the tail doorbell of queues that it was told are there, names no two outstanding commands of a queue alike,
-- and turns a queue by one command at a time
abbrev pub IsDutiful : Start → Past → Event → Type 0
IsDutiful start past (Tail sq slot) = is_some (ring_of start past sq) ≡ true
IsDutiful start past (Fetch sq slot cid command) = (is_some (asked past sq cid) ≡ false) × ComesAlone past sq command
IsDutiful start past e = Unit {0}

abbrev pub KeepsDuties : Start → Past → Type 0
KeepsDuties start log = EachShown (IsDutiful start) log

-- ---- completion queues
-- a Create or a Delete of a completion queue is fetched while no other of that queue is outstanding: no log tells which of two takes effect first, and
-- admin commands may be answered in another order than they were fetched
abbrev pub TurnsCqAlone : Past → Event → Type 0
TurnsCqAlone past (Fetch sq slot cid command) = sq ≡ 0 → (name : ℕ) (other : AdminCommand) → asked past 0 name ≡ Some other → (q : ℕ) → turns_cq command q ≡ true → turns_cq other q ≡ true → ⊥
TurnsCqAlone past e = Unit {0}

-- a host turns a completion queue by one command at a time
abbrev pub TurnsCqsAlone : Past → Type 0
TurnsCqsAlone log = EachShown TurnsCqAlone log

-- a host writes the head doorbell of completion queues that it was told are there, and to which no completion came before that
abbrev pub IsKnownHead : Start → Past → Event → Type 0
IsKnownHead start past (Head cq slot) = (is_some (qsize_of start past cq) ≡ true) × (is_early start past cq ≡ false)
IsKnownHead start past e = Unit {0}

abbrev pub KnowsHeads : Start → Past → Type 0
KnowsHeads start log = EachShown (IsKnownHead start) log
