use Rattle.std.proofs.Common.{take}
use Rattle.std.specs.Io.KnownBytes.{Appends}
use Rattle.nvme_numbers.specs.Sheets.{placed}
use Rattle.std.specs.Prelude.{◌++◌}
use Rattle.nvme_numbers.specs.Objects.{comma_before}
use Rattle.nvme_waits.specs.Texts.{queue_object}
use Rattle.nvme_waits.proofs.texts.put_queues.Given as goal

-- those so far were written
abbrev pub invariant-loop-place : goal.invariant-loop-place
invariant-loop-place g l =
    Appends (g.W.Write.contents l.fn.writer) (g.W.Write.contents l.writer) (placed (λ place x. comma_before place ++ queue_object l.bounds place x) 0 (take l.place l.queues))
