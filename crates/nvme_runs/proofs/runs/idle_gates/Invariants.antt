-- The loop has made one gate in each of its rounds.
use Rattle.std.proofs.Common.{◌≡◌, ◌≤◌, vec_len, vec_capacity}
use Rattle.nvme_runs.proofs.runs.idle_gates.Given as goal

abbrev pub invariant-loop : goal.invariant-loop
invariant-loop l = record { count : vec_len l.gates ≡ l.counter; room : l.workers ≤ vec_capacity l.gates }
