use Rattle.std.proofs.Common.{◌≡◌, ◌<◌}
use mathlib.Core.List.{IsPrefix}
use Rattle.nvme_lane.specs.Feeder.{script_of}
use Rattle.nvme_lane.specs.Drainer.{items_of}
use Rattle.nvme_front.specs.View.{GoesOn, AccountsForEnds}
use Rattle.nvme_front_uses.proofs.device.Device.serve.Given as goal

abbrev pub invariant-loop : goal.invariant-loop
invariant-loop g l = record {
  goes_on : GoesOn l.fn.self.front l.self.front;
  account : 0 < l.counter → AccountsForEnds l.self.front;
  script : script_of l.self.feeder ≡ script_of l.fn.self.feeder;
  collected : IsPrefix (items_of l.fn.self.drainer) (items_of l.self.drainer);
}
