use Rattle.std.proofs.Common.{◌≡◌, map, take}
use Rattle.nvme_model_form.specs.Views.{asking_of}
use Rattle.nvme_simulate.specs.Loads.{offered_in}
use Rattle.nvme_simulate.proofs.loads.offered_to.Given as goal

-- what the queues so far ask for
abbrev pub invariant-loop-queue : goal.invariant-loop-queue
invariant-loop-queue l = l.sum ≡ offered_in l.parts (map asking_of (take l.queue-index l.queue-items))
