-- The passes of a pool's lane (profile).
use Rattle.std.specs.Prelude.{List, map}
use Rattle.nvme_lane.specs.Passes.{PassView}
use Rattle.nvme_pool.specs.declared.jobs.Job.{Job}
use Rattle.nvme_pool.specs.Worker.{WorkerView}

-- the pass by which a worker takes
abbrev pub pass_of : WorkerView → PassView Job
pass_of w = record { lane = w.lane; parts = w.parts; items = w.taken }

abbrev pub passes_of : List WorkerView → List (PassView Job)
passes_of workers = map pass_of workers
