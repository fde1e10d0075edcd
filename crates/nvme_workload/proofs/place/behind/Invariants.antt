-- The place so far is that behind the bytes so far.
use Rattle.std.proofs.Common.{◌≡◌, ◌+◌, ◌≤◌, take}
use Rattle.nvme_workload.specs.Places.{line_behind, column_behind}
use Rattle.nvme_workload.proofs.place.behind.Given as goal

abbrev pub invariant-loop-byte : goal.invariant-loop-byte
invariant-loop-byte l = record {
  line : l.line ≡ line_behind (take l.byte-index l.bytes);
  column : l.column ≡ column_behind (take l.byte-index l.bytes);
  few_lines : l.line ≤ l.byte-index + 1;
  few_columns : l.column ≤ l.byte-index + 1;
}
