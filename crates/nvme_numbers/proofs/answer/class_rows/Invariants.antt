use Rattle.std.proofs.Common.{take}
use Rattle.nvme_numbers.specs.inside.Unions.{AreClassRows}
use Rattle.nvme_numbers.proofs.answer.class_rows.Given as goal

-- the rows so far are those of the classes so far
abbrev pub invariant-loop-class : goal.invariant-loop-class
invariant-loop-class l = AreClassRows l.coming l.span l.whole l.queues (take l.class-index l.classes) l.rows.items
