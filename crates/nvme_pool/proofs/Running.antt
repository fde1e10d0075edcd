-- A run of a worker goes on by one step.
use Rattle.std.proofs.Common.{◌≡◌, ℕ, [], ◌∷◌, ◌++◌, refl, sym, ap, ◌∙◌, append_assoc}
use Rattle.std.proofs.lemmas.List.{append-nil}
use Rattle.std.proofs.lemmas.List.Sums.{fold_push}
use Rattle.std.specs.Prelude.{Option, Some, None}
use Rattle.nvme_pool.specs.declared.jobs.Job.{Job}
use Rattle.nvme_pool.specs.declared.jobs.Finished.{Finished}
use Rattle.nvme_pool.specs.declared.worker.Worked.{Worked}
use Rattle.nvme_pool.specs.declared.worker.Worked.TheVariants.{Did, Held, Nothing}
use Rattle.nvme_pool.specs.Worker.{WorkerView, SameWorker}
use Rattle.nvme_pool.specs.Steps.{StepsFrom, Steps}
use Rattle.nvme_pool.specs.Runs.{Ran}
use Rattle.nvme_pool.proofs.Standing.{worker_stays_on}

module _ {G : Type 0} (runs : G → ℕ → G) where
  -- no step is a run of no job
  pub ran_none : (worker : WorkerView) (view : G) → Ran runs worker view worker view
  ran_none worker view = record {
    same = record { lane = refl; parts = refl; ring = refl };
    more = [];
    taken = sym (append-nil worker.taken);
    executed = sym (append-nil worker.executed);
    told = refl;
  }

  -- a run goes on by a step that takes no job
  ran_idle : (old : WorkerView) (view : G) (mid : WorkerView) (between : G) (new : WorkerView) (view' : G) → Ran runs old view mid between → SameWorker mid new
      → new.taken ≡ mid.taken → new.executed ≡ mid.executed → view' ≡ between → Ran runs old view new view'
  ran_idle old view mid between new view' ran same taken executed told =
      record { same = worker_stays_on old mid new ran.same same; more = ran.more; taken = taken ∙ ran.taken; executed = executed ∙ ran.executed; told = told ∙ ran.told }

  -- a run goes on by the execution of one job
  ran_job : (old : WorkerView) (view : G) (mid : WorkerView) (between : G) (new : WorkerView) (view' : G) (job : Job) → Ran runs old view mid between → SameWorker mid new
      → new.taken ≡ mid.taken ++ job ∷ [] → new.executed ≡ mid.executed ++ job ∷ [] → view' ≡ runs between job.ticket → Ran runs old view new view'
  ran_job old view mid between new view' job ran same taken executed told = record {
    same = worker_stays_on old mid new ran.same same;
    more = ran.more ++ job ∷ [];
    taken = taken ∙ ap (λ xs. xs ++ job ∷ []) ran.taken ∙ append_assoc old.taken ran.more (job ∷ []);
    executed = executed ∙ ap (λ xs. xs ++ job ∷ []) ran.executed ∙ append_assoc old.executed ran.more (job ∷ []);
    told = told ∙ ap (λ v. runs v job.ticket) ran.told ∙ sym (fold_push (λ (v : G) (j : Job). runs v j.ticket) view ran.more job);
  }

  -- a run goes on by one step, by what the worker kept before it
  ran_from : (kept : Option Finished) (old : WorkerView) (view : G) (mid : WorkerView) (between : G) (worked : Worked) (new : WorkerView) (view' : G)
      → Ran runs old view mid between → SameWorker mid new → StepsFrom runs kept mid between worked new view' → Ran runs old view new view'
  ran_from (Some done) old view mid between worked new view' ran same step = ran_idle old view mid between new view' ran same step.0.0 step.0.1 step.1
  ran_from None old view mid between Nothing new view' ran same step = ran_idle old view mid between new view' ran same step.0.0 step.0.1 step.1
  ran_from None old view mid between Did new view' ran same step = ran_job old view mid between new view' step.0 ran same step.1.0 step.1.1 step.2
  ran_from None old view mid between Held new view' ran same step = ran_job old view mid between new view' step.0 ran same step.1.0 step.1.1 step.2

  -- a run goes on by one step
  pub ran_step : (old : WorkerView) (view : G) (mid : WorkerView) (between : G) (worked : Worked) (new : WorkerView) (view' : G)
      → Ran runs old view mid between → SameWorker mid new → Steps runs mid between worked new view' → Ran runs old view new view'
  ran_step old view mid between worked new view' ran same step = ran_from mid.kept old view mid between worked new view' ran same step
