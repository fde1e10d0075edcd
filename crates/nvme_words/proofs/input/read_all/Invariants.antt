-- What was given is what was taken, and each turn reads once.
use Rattle.std.proofs.Common.{◌≡◌, ◌≤◌, false, length}
use Rattle.std.specs.Io.KnownBytes.{Consumes}
use Rattle.nvme_words.proofs.input.read_all.Given as goal

abbrev pub invariant-loop : goal.invariant-loop
invariant-loop g l = record {
  taken : Consumes (g.R.Read.remaining l.fn.reader.reader) (g.R.Read.remaining l.reader.reader) l.bytes.items;
  short : length l.bytes.items ≤ 16777216;
  reads : l.reader.reads ≡ l.counter;
  interruptions : l.reader.interruptions ≤ l.counter;
  given : l.reader.given ≡ length l.bytes.items;
  failed : l.reader.failed ≡ false;
}
