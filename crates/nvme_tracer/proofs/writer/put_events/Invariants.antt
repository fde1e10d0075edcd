use Rattle.std.proofs.Common.{take}
use Rattle.std.specs.Io.KnownBytes.{Appends}
use Rattle.std.specs.List.{flat_map}
use Rattle.nvme_tracer.specs.Text.{text_of_event}
use Rattle.nvme_tracer.proofs.writer.put_events.Given as goal

-- those so far were written
abbrev pub invariant-loop-event : goal.invariant-loop-event
invariant-loop-event g l =
    Appends (g.W.Write.contents l.fn.writer) (g.W.Write.contents l.writer) (flat_map text_of_event (take l.event-index l.log))
