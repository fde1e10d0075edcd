-- The log of a controller: what it does, and what host and device tell it. Nobody keeps it. It is read backwards, the newest note first.
-- (Base Specification, Command Submission and Completion Mechanism; notes: profile)
use Rattle.std.specs.Prelude.{ℕ, Bool, List, [], ◌∷◌}
use Rattle.nvme_arbiter.specs.declared.settings.Class.{Class}
use Rattle.nvme_log.specs.declared.event.Event.{Event}
use Rattle.nvme_log.specs.Rules.{Past}
use Rattle.nvme_log.specs.Answers.{Answer}
use Rattle.nvme_ctrl_log.specs.declared.status_flags.StatusFlags.{StatusFlags}

pub data Note : Type 0 where
  -- the controller did a step that the log of a front has too: a fetch, a pick, what an admin command makes, a post, the end of a deletion
  Logged : (event : Event) → Note
  -- the host wrote the tail doorbell of the submission queue on a region (Submission Queue y Tail Doorbell)
  Tail : (r slot : ℕ) → Note
  -- the host wrote the head doorbell of the completion queue on a region (Completion Queue y Head Doorbell)
  Head : (c slot : ℕ) → Note
  -- the caller keeps a number with a command that was fetched, its cookie
  Kept : (r i cookie : ℕ) → Note
  -- the controller passed a picked admin command on to the device, whose command it is
  Passed : (i : ℕ) → Note
  -- the device took a picked command, which has this tag from now until its completion is posted
  Taken : (tag r i : ℕ) → Note
  -- a picked command was answered: one of an I/O queue or one that was passed on by the device, any other admin command by the controller
  Answered : (r i : ℕ) (answer : Answer) → Note
  -- the device flags the completion of a command that it answered (Status Field: More, Do Not Retry)
  Flagged : (r i : ℕ) (flags : StatusFlags) → Note
  -- the device holds an open submission queue, which leaves it out of arbitration, or holds it no longer (profile)
  Held : (q : ℕ) (on : Bool) → Note
  -- the device gives an open submission queue another priority class than it had (profile)
  Classed : (q : ℕ) (class : Class) → Note

abbrev pub Notes : Type 0
Notes = List Note

-- the log of a front that the notes contain
abbrev pub logged : Notes → Past
logged [] = []
logged (Logged event ∷ notes) = event ∷ logged notes
logged (note ∷ notes) = logged notes

-- something holds of each note, with the notes before it
abbrev pub EachNote : (Notes → Note → Type 0) → Notes → Type 0
EachNote P [] = Unit {0}
EachNote P (note ∷ notes) = P notes note × EachNote P notes
