use Rattle.std.proofs.Common.{◌++◌, take}
use Rattle.std.specs.Io.KnownBytes.{Appends}
use Rattle.nvme_numbers.specs.Objects.{queue_object, comma_before}
use Rattle.nvme_numbers.specs.Sheets.{placed}
use Rattle.nvme_numbers.proofs.answer.object.list_queues.Given as goal

-- those so far were written
abbrev pub invariant-loop-place : goal.invariant-loop-place
invariant-loop-place g l =
    Appends (g.W.Write.contents l.fn.writer) (g.W.Write.contents l.writer) (placed (λ place x. comma_before place ++ queue_object place x) 0 (take l.place l.queues))
