-- Some of the commands were taken, and their jobs added.
use Rattle.std.proofs.Common.{◌≡◌, ◌+◌, ◌≤◌, length}
use Rattle.nvme_engine.specs.Standing.{IsEngine}
use Rattle.nvme_front.proofs.TakenCommands.{TakesSome}
use Rattle.nvme_front.proofs.dispatches.dispatch.Given as goal

abbrev pub invariant-loop : goal.invariant-loop
invariant-loop l = record {
  engine : IsEngine l.engine;
  room : l.jobs.room ≡ l.fn.jobs.room;
  unhanded : length l.jobs.hands.unhanded ≤ length l.fn.jobs.hands.unhanded + l.counter;
  tickets : l.jobs.tickets ≤ l.fn.jobs.tickets + l.counter;
  some : TakesSome l.region l.counter l.fn.jobs l.fn.engine l.jobs l.engine;
}
