use Rattle.std.proofs.Common.{◌≡◌, ◌++◌, replicate}
use Rattle.nvme_short.proofs.names.push_places_of.Given as goal

abbrev pub invariant-loop-command : goal.invariant-loop-command
invariant-loop-command l = record {
  places : l.places.items ≡ l.fn.places.items ++ replicate l._command l.place;
}
