-- What the log says of Abort commands: which places they aborted, and which of them aborted one. (Base Specification, Abort)
use Rattle.std.specs.Prelude.{ℕ, ◌==◌, ◌&&◌, ◌||◌, Bool, false, not, if◌then◌else◌, [], ◌∷◌, Option, Some, None, slice_get}
use Rattle.nvme_entry.specs.declared.submission.Sqe.{Sqe}
use Rattle.nvme_arbiter.specs.declared.pick.Pick.{Pick}
use Rattle.nvme_admin.specs.declared.verdict.Verdict.{Verdict}
use Rattle.nvme_admin.specs.declared.verdict.Verdict.TheVariants as verdict
use Rattle.nvme_log.specs.declared.event.Event.TheVariants as event
use Rattle.nvme_log.specs.Rules.{Past}
use Rattle.nvme_log.specs.Places.{waiting, is_aborted}
use Rattle.nvme_log.specs.Histories.{admin_entry}

-- an entry of the admin queue has the opcode of Abort. (Opcodes for Admin Commands)
abbrev pub is_abort_entry : Option Sqe → Bool
is_abort_entry None = false
is_abort_entry (Some entry) = entry.opcode == 0x08

-- the latest pick took an Abort command
abbrev pub took_abort : Past → Bool
took_abort [] = false
took_abort (event.Pick seen pick ∷ past) = pick.qid == 0 && is_abort_entry (admin_entry past)
took_abort (e ∷ past) = took_abort past

-- an Abort command aborted the place: the latest pick before the event that aborted it took one
abbrev pub is_abort_requested : Past → ℕ → ℕ → Bool
is_abort_requested [] r i = false
is_abort_requested (event.Abort region index ∷ past) r i = ((region == r && index == i) && took_abort past) || is_abort_requested past r i
is_abort_requested (e ∷ past) r i = is_abort_requested past r i

-- a place was aborted with its queue, whose deletion began
abbrev pub is_aborted_with_queue : Past → ℕ → ℕ → Bool
is_aborted_with_queue past r i = is_aborted past r i && not (is_abort_requested past r i)

-- the admin place that a pick takes
abbrev pub taken_by : Past → Pick → Option ℕ
taken_by past pick = if pick.qid == 0 then slice_get (waiting past 0) 0 else None

-- the admin place whose pick is the last event
abbrev pub just_picked : Past → Option ℕ
just_picked [] = None
just_picked (event.Pick seen pick ∷ past) = taken_by past pick
just_picked (e ∷ past) = None

-- two indices are the same
abbrev pub is_index : ℕ → Option ℕ → Bool
is_index i None = false
is_index i (Some j) = j == i

-- an abort follows the latest pick of an admin place at once
abbrev pub has_aborted : Past → ℕ → Bool
has_aborted [] i = false
has_aborted (event.Abort region index ∷ past) i = is_index i (just_picked past) || has_aborted past i
has_aborted (event.Pick seen pick ∷ past) i = if is_index i (taken_by past pick) then false else has_aborted past i
has_aborted (e ∷ past) i = has_aborted past i

-- Dword 0 of an admin command: for an Abort 0 where it aborted a command and 1 otherwise, for any other that of the queue table
abbrev pub told_dw0 : Bool → Verdict → ℕ → ℕ
told_dw0 aborted (verdict.Abort sqid cid) dw0 = if aborted then 0 else 1
told_dw0 aborted v dw0 = dw0

-- how many outstanding places a pick needs: one for each command, and a second one for what an Abort command may abort (profile)
abbrev pub places_for : Past → Pick → ℕ
places_for past pick = if pick.qid == 0 && is_abort_entry (admin_entry past) then 2 else pick.n
