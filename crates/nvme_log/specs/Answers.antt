-- What executes the picked I/O commands, and what it answers: a front by itself, or a device that a front hands them to.
-- (Base Specification, Completion Queue Entry; who executes: profile)
use Rattle.std.specs.Prelude.{ℕ, Option, Some, None}
use Rattle.nvme_entry.specs.Status.{StatusCode, success}
use Rattle.nvme_entry.specs.Outcome.{outcome_of}
use Rattle.nvme_entry.specs.declared.submission.Sqe.{Sqe}
use Rattle.nvme_log.specs.Rules.{Past, FrontRules}
use Rattle.nvme_log.specs.Places.{entry_at}
use Rattle.nvme_log.specs.declared.place.Place.{Place}

-- the answer to an I/O command: its status and Dword 0
pub record Answer : Type 0 where
  pub status : StatusCode
  pub dw0 : ℕ

-- what executes I/O commands, by what it answers to the command of a place
abbrev pub Executor : Type 0
Executor = Place → Sqe → Answer

-- the outcome of a command as its answer. Dword 0 is 0
abbrev pub outcome_answer : FrontRules → Sqe → Answer
outcome_answer rules entry = record { status = outcome_of entry rules.sizes; dw0 = 0 }

-- a front that executes commands by itself answers with their outcomes
abbrev pub by_outcome : FrontRules → Executor
by_outcome rules place = outcome_answer rules

-- what a device answered for each place
abbrev pub Answers : Type 0
Answers = Place → Answer

-- a device may answer anything
abbrev pub by_answers : Answers → Executor
by_answers answers place entry = answers place

-- the outcome of the command of a place; success where no command stands there
abbrev pub outcome_at : FrontRules → Option Sqe → Answer
outcome_at rules None = record { status = success; dw0 = 0 }
outcome_at rules (Some entry) = outcome_answer rules entry

-- the outcomes of a log's commands, as answers for their places
abbrev pub outcomes : FrontRules → Past → Answers
outcomes rules past place = outcome_at rules (entry_at past place.region place.index)
