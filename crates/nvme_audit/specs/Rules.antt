-- What the controller owes at a fetch and at a completion, rule by rule in the order in which they are told.
-- (Base Specification, Submission Queue y Tail Doorbell, Submission Queue Entry, Completion Queue Entry, Phase Tag, Full Queue,
-- Create I/O Submission Queue, Delete I/O Submission Queue, SQ Head Pointer)
use Rattle.std.specs.Prelude.{ℕ, ◌+◌, ◌%◌, ◌==◌, ◌&&◌, ◌||◌, nat_le, nat_lt, Bool, false, not, is_none, List, [], ◌∷◌, Option, Some, None, if◌then◌else◌}
use Rattle.std.specs.Bool.{beq}
use Rattle.nvme_audit.specs.declared.event.Completion.{Completion}
use Rattle.nvme_audit.specs.declared.facts.Tells.{Tells}
use Rattle.nvme_audit.specs.declared.facts.Ring.{Ring}
use Rattle.nvme_audit.specs.declared.facts.Sq.{Sq}
use Rattle.nvme_audit.specs.declared.facts.Cq.{Cq}
use Rattle.nvme_audit.specs.declared.facts.Command.{Command}
use Rattle.nvme_audit.specs.declared.verdict.Verdict.{Verdict}
use Rattle.nvme_audit.specs.declared.verdict.Verdict.TheVariants.{Kept, Host, Broken}
use Rattle.nvme_audit.specs.declared.verdict.Breach.TheVariants.{CidReused}
use Rattle.nvme_audit.specs.declared.verdict.Rule.TheVariants as rule
use Rattle.nvme_audit.specs.Rings.{slots_of, gap, phase_of}
use Rattle.nvme_audit.specs.Host.{Check, first_failed}

-- what is told differs from a number
abbrev pub is_other : Option ℕ → ℕ → Bool
is_other None wanted = false
is_other (Some told) wanted = not (told == wanted)

abbrev pub is_other_phase : Option Bool → Bool → Bool
is_other_phase None wanted = false
is_other_phase (Some told) wanted = not (beq told wanted)

-- ---- fetches
-- what the tail announced (Submission Queue y Tail Doorbell), slot by slot (Submission Queue), under an identifier that is free: that is
-- the host's duty (Command Identifier)
abbrev pub fetch_checks : Tells → Sq → ℕ → Option ℕ → Bool → List Check
fetch_checks tells sq qsize slot is_out =
    record { fails = tells.tails && nat_le sq.submitted sq.fetched; verdict = Broken rule.FetchBeyondTail }
    ∷ record { fails = is_other slot (sq.fetched % slots_of qsize); verdict = Broken rule.FetchSlot }
    ∷ record { fails = is_out; verdict = Host CidReused }
    ∷ []

-- from an open queue (Create and Delete I/O Submission Queue)
abbrev pub fetch_rules : Tells → Sq → Option Ring → Option ℕ → Bool → Verdict
fetch_rules tells sq None slot is_out = Broken rule.FetchClosed
fetch_rules tells sq (Some ring) slot is_out = first_failed (fetch_checks tells sq ring.qsize slot is_out) Kept

abbrev pub fetch_verdict : Tells → Sq → Option ℕ → Bool → Verdict
fetch_verdict tells sq slot is_out = if sq.excused then Kept else fetch_rules tells sq sq.ring slot is_out

-- ---- completions
-- (SQ Head Pointer) the first head after the own entry of a command that names this slot is no further than what was fetched
abbrev pub is_head_of : (qsize number fetched head : ℕ) → Bool
is_head_of qsize number fetched head = nat_le head qsize && nat_le (number + 1 + gap (slots_of qsize) ((number + 1) % slots_of qsize) head) fetched

abbrev pub is_other_head : ℕ → Option Command → ℕ → Option ℕ → Bool
is_other_head qsize None fetched head = false
is_other_head qsize (Some command) fetched None = false
is_other_head qsize (Some command) fetched (Some head) = not (is_head_of qsize command.number fetched head)

-- the name that a completion tells: of an open queue (Delete I/O Submission Queue), into its completion queue (Create I/O Submission Queue),
-- of an outstanding command (Completion Queue Entry), with a head of it
abbrev pub name_rules : ℕ → Sq → Option Ring → Option Command → Option ℕ → Verdict
name_rules cqid sq None command head = Broken (if sq.deleted then rule.PostClosed else rule.Life)
name_rules cqid sq (Some ring) command head =
    first_failed
    (record { fails = not (ring.cqid == cqid); verdict = Broken rule.CqWrong }
    ∷ record { fails = is_none command; verdict = Broken rule.Life }
    ∷ record { fails = is_other_head ring.qsize command sq.fetched head; verdict = Broken rule.Sqhd }
    ∷ [])
    Kept

-- a completion may be read after the deletion of its queue, and after the identifier came anew: where reads are told, those of an
-- identifier that was ever deleted aren't judged by their names
abbrev pub name_verdict : Tells → ℕ → Sq → Option Command → Option ℕ → Verdict
name_verdict tells cqid sq command head = if sq.excused || (not tells.posts && sq.deleted) then Kept else name_rules cqid sq sq.ring command head

-- the slot of a completion: the next (Completion Queue), with the phase tag of its pass (Phase Tag), and not the last free one (Full Queue)
abbrev pub slot_checks : Tells → Cq → ℕ → Option ℕ → Option Bool → List Check
slot_checks tells cq qsize slot phase =
    record { fails = is_other slot (cq.posted % slots_of qsize); verdict = Broken rule.Slot }
    ∷ record { fails = is_other_phase phase (phase_of qsize cq.posted); verdict = Broken rule.Phase }
    ∷ record { fails = tells.heads && nat_le (cq.consumed + qsize) cq.posted; verdict = Broken rule.CqFull }
    ∷ []

-- in an open queue, or one of which a Create is outstanding (Create and Delete I/O Completion Queue). A host may read one that was deleted
abbrev pub slot_rules : Tells → Cq → Option ℕ → Option ℕ → Option Bool → Verdict
slot_rules tells cq None slot phase = if not tells.posts || nat_lt cq.answered cq.asked then Kept else Broken rule.PostClosed
slot_rules tells cq (Some qsize) slot phase = if cq.early then Kept else first_failed (slot_checks tells cq qsize slot phase) Kept

abbrev pub if_kept : Verdict → Verdict → Verdict
if_kept Kept otherwise = otherwise
if_kept (Host breach) otherwise = Host breach
if_kept (Broken broken) otherwise = Broken broken

-- the slot first, and then the name
abbrev pub post_verdict : Tells → ℕ → Cq → Sq → Option Command → Option ℕ → Completion → Verdict
post_verdict tells cqid cq sq command slot completion =
    if cq.excused then Kept
    else if_kept (slot_rules tells cq cq.qsize slot completion.phase) (name_verdict tells cqid sq command completion.sqhd)
