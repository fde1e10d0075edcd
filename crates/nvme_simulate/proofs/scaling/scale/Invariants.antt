use Rattle.std.proofs.Common.{◌≡◌, ◌++◌, map, take, drop}
use Rattle.nvme_simulate.specs.Scaling.{scaled_asking}
use Rattle.nvme_model_form.specs.Views.{asking_of}
use Rattle.nvme_simulate.proofs.scaling.scale.Given as goal

-- the queues so far are scaled, and the others stay
abbrev pub invariant-loop-place : goal.invariant-loop-place
invariant-loop-place l =
    map asking_of l.queues
    ≡ map (scaled_asking l.ratio.offered l.ratio.target) (take l.place (map asking_of l.fn.queues)) ++ drop l.place (map asking_of l.fn.queues)
