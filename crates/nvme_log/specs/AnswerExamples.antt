-- A worked log in which a device answers a Read otherwise than by its outcome (profile). The rules are those of `one_deletion`.
use Rattle.std.specs.Prelude.{◌==◌, if◌then◌else◌, List, [], ◌∷◌}
use Rattle.nvme_entry.specs.Status.{code, success}
use Rattle.nvme_entry.specs.declared.completion.Cqe.{Cqe}
use Rattle.nvme_log.specs.declared.event.Event.TheVariants.{Post}
use Rattle.nvme_log.specs.Rules.{Past}
use Rattle.nvme_log.specs.Answers.{Answer, Answers}
use Rattle.nvme_log.specs.Examples.{done, read_done, one_picked}

-- Unrecovered Read Error (Media and Data Integrity Errors), with a Dword 0
abbrev pub read_error : Answer
read_error = record { status = code 2 0x81; dw0 = 7 }

-- what the device answers: that error to the first command of each region, and success to any other
abbrev pub faulty : Answers
faulty place = if place.index == 0 then read_error else record { status = success; dw0 = 0 }

-- the completion of a command with that error
abbrev pub failed : Cqe → Cqe
failed cqe = record cqe { dw0 = read_error.dw0; status = read_error.status }

-- the log up to the completion of the first Read, and what was collected from either region
abbrev pub read_failed : Past
read_failed = Post 1 1 0 (failed read_done) ∷ one_picked

abbrev pub creates_done : List Cqe
creates_done = done 0 0 success ∷ done 0 1 success ∷ []

abbrev pub failed_told : List Cqe
failed_told = failed read_done ∷ []
