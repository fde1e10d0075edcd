-- What many steps of a worker do, to the worker and to its gate (profile).
use Rattle.std.specs.Prelude.{◌≡◌, ℕ, List, ◌++◌}
use Rattle.std.specs.List.{fold}
use Rattle.nvme_pool.specs.declared.jobs.Job.{Job}
use Rattle.nvme_pool.specs.Worker.{WorkerView, SameWorker}

-- `runs` is the view of a gate after one execution, by the view before it and the ticket
module _ {G : Type 0} (runs : G → ℕ → G) where
  -- the view after the executions of these jobs, in order
  abbrev pub after : G → List Job → G
  after view jobs = fold (λ (v : G) (j : Job). runs v j.ticket) view jobs

  -- the worker took these jobs more, and its gate was told of just their executions, each once and in order. That they were executed is this fact of the gate; `executed` alone says no more than `taken`
  pub record Ran (old : WorkerView) (view : G) (new : WorkerView) (view' : G) : Type 0 where
    pub same : SameWorker old new
    pub more : List Job
    pub taken : new.taken ≡ old.taken ++ more
    pub executed : new.executed ≡ old.executed ++ more
    pub told : view' ≡ after view more
