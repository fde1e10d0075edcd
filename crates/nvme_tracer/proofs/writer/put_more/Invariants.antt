use Rattle.std.proofs.Common.{take}
use Rattle.std.specs.Io.KnownBytes.{Appends}
use Rattle.std.specs.List.{flat_map}
use Rattle.nvme_tracer.specs.Text.{text_of_next}
use Rattle.nvme_tracer.proofs.writer.put_more.Given as goal

-- those so far were written
abbrev pub invariant-loop-queue : goal.invariant-loop-queue
invariant-loop-queue g l =
    Appends (g.W.Write.contents l.fn.writer) (g.W.Write.contents l.writer) (flat_map text_of_next (take l.queue-index l.queues))
