-- The commands that the device has, their tags, their answers and their flags, and what the caller keeps with them.
-- (Base Specification, Completion Queue Entry; tags: profile)
use Rattle.std.specs.Prelude.{ℕ, ◌+◌, ◌==◌, ◌&&◌, ◌||◌, Bool, false, not, if◌then◌else◌, List, [], ◌∷◌, ◌++◌, Option, Some, None, is_none, is_some}
use Rattle.nvme_entry.specs.Status.{success}
use Rattle.nvme_log.specs.declared.event.Event.TheVariants.{Fetch, Pick, Post}
use Rattle.nvme_log.specs.Rules.{Past}
use Rattle.nvme_log.specs.Places.{is_aborted}
use Rattle.nvme_log.specs.declared.place.Place.{Place}
use Rattle.nvme_log.specs.Queues.{open_sq}
use Rattle.nvme_log.specs.Dispatches.{place_at, dispatched_by}
use Rattle.nvme_log.specs.Answers.{Answer, Answers}
use Rattle.nvme_ctrl_log.specs.Notes.{Notes, Logged, Kept, Passed, Taken, Answered, Flagged, logged}
use Rattle.nvme_ctrl_log.specs.declared.status_flags.StatusFlags.{StatusFlags}

-- an admin command was passed on to the device
abbrev pub is_passed : Notes → ℕ → Bool
is_passed [] i = false
is_passed (Passed index ∷ notes) i = index == i || is_passed notes i
is_passed (note ∷ notes) i = is_passed notes i

-- a command is the device's to answer: one of an I/O queue, or an admin command that was passed on
abbrev pub is_of_device : Notes → ℕ → ℕ → Bool
is_of_device notes r i = not (r == 0) || is_passed notes i

-- the places whose commands the device is to take, in order: those of the picks of I/O queues, and the admin commands that were passed on
abbrev pub handed : Notes → List Place
handed [] = []
handed (Logged (Pick seen pick) ∷ notes) = handed notes ++ dispatched_by (logged notes) pick (open_sq (logged notes) pick.qid)
handed (Passed i ∷ notes) = handed notes ++ place_at 0 i ∷ []
handed (note ∷ notes) = handed notes

-- the places whose commands the device took, in order
abbrev pub taken : Notes → List Place
taken [] = []
taken (Taken tag r i ∷ notes) = taken notes ++ place_at r i ∷ []
taken (note ∷ notes) = taken notes

-- a place is this one
abbrev pub is_place : ℕ → ℕ → Option Place → Bool
is_place r i None = false
is_place r i (Some place) = place.region == r && place.index == i

-- the place that a tag stands for, from when the device took its command until its completion is posted
abbrev pub holder : Notes → ℕ → Option Place
holder [] t = None
holder (Taken tag r i ∷ notes) t = if tag == t then Some (place_at r i) else holder notes t
holder (Logged (Post c r i cqe) ∷ notes) t = if is_place r i (holder notes t) then None else holder notes t
holder (note ∷ notes) t = holder notes t

-- how many commands were fetched, and how many completions were posted, of all queues. A command holds a slot of the pool in between
abbrev pub all_fetches : Past → ℕ
all_fetches [] = 0
all_fetches (Fetch r i entry ∷ past) = all_fetches past + 1
all_fetches (e ∷ past) = all_fetches past

abbrev pub all_posts : Past → ℕ
all_posts [] = 0
all_posts (Post c r i cqe ∷ past) = all_posts past + 1
all_posts (e ∷ past) = all_posts past

-- the answer to the command of a place
abbrev pub answer_of : Notes → ℕ → ℕ → Option Answer
answer_of [] r i = None
answer_of (Answered region index answer ∷ notes) r i = if region == r && index == i then Some answer else answer_of notes r i
answer_of (note ∷ notes) r i = answer_of notes r i

-- what the caller keeps with the command of a place
abbrev pub cookie_of : Notes → ℕ → ℕ → Option ℕ
cookie_of [] r i = None
cookie_of (Kept region index cookie ∷ notes) r i = if region == r && index == i then Some cookie else cookie_of notes r i
cookie_of (note ∷ notes) r i = cookie_of notes r i

-- a tag is out: the device took its command and hasn't answered it
abbrev pub is_unanswered : Notes → Option Place → Bool
is_unanswered notes None = false
is_unanswered notes (Some place) = is_none (answer_of notes place.region place.index)

abbrev pub is_out : Notes → ℕ → Bool
is_out notes t = is_unanswered notes (holder notes t)

-- the answers, for the account. Nothing is said of a place without one
abbrev pub answer_or : Option Answer → Answer
answer_or None = record { status = success; dw0 = 0 }
answer_or (Some answer) = answer

abbrev pub answers : Notes → Answers
answers notes place = answer_or (answer_of notes place.region place.index)

-- a command is through, so that its completion may be posted: it was aborted or answered
abbrev pub is_through : Notes → ℕ → ℕ → Bool
is_through notes r i = is_aborted (logged notes) r i || is_some (answer_of notes r i)

-- the flags that the device gave the completion of a place
abbrev pub flags_of : Notes → ℕ → ℕ → Option StatusFlags
flags_of [] r i = None
flags_of (Flagged region index flags ∷ notes) r i = if region == r && index == i then Some flags else flags_of notes r i
flags_of (note ∷ notes) r i = flags_of notes r i
