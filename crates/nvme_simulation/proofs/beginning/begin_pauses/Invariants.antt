use Rattle.std.proofs.Common.{◌≡◌}
use Rattle.nvme_simulation.specs.Plans.{events_of, first_pauses, planned}
use Rattle.nvme_simulation.specs.Times.{now_of}
use Rattle.nvme_simulation.proofs.beginning.begin_pauses.Given as goal

abbrev pub invariant-loop-channel : goal.invariant-loop-channel
invariant-loop-channel l = record {
  time : now_of l.agenda ≡ now_of l.fn.agenda;
  events : events_of l.agenda ≡ planned (first_pauses l.pauses.every l.fn.device.channels l.channel) (events_of l.fn.agenda);
}
