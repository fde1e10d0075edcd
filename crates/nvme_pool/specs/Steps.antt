-- What a step of a worker does, to the worker and to its gate (profile).
use Rattle.std.specs.Prelude.{◌≡◌, ℕ, ◌-◌, [], ◌∷◌, ◌++◌, Option, Some, None}
use Rattle.nvme_pool.specs.declared.jobs.Job.{Job}
use Rattle.nvme_pool.specs.declared.jobs.Finished.{Finished}
use Rattle.nvme_pool.specs.declared.worker.Worked.{Worked}
use Rattle.nvme_pool.specs.declared.worker.Worked.TheVariants.{Did, Held, Nothing}
use Rattle.nvme_pool.specs.Worker.{WorkerView}
use Rattle.nvme_pool.specs.Jobs.{result_of}

-- a result was given, which took one of the places known to be free, or is kept, where no place was known to be free
abbrev pub Gives : WorkerView → Finished → Worked → WorkerView → Type 0
Gives old done Did new = (new.given ≡ old.given ++ done ∷ []) × (new.kept ≡ None) × (new.free ≡ old.free - 1)
Gives old done Held new = (new.given ≡ old.given) × (new.kept ≡ Some done) × (old.free ≡ 0) × (new.free ≡ 0)
Gives old done Nothing new = ⊥

-- a job was taken and executed
abbrev pub Takes : WorkerView → Job → WorkerView → Type 0
Takes old job new = (new.taken ≡ old.taken ++ job ∷ []) × (new.executed ≡ old.executed ++ job ∷ [])

-- nothing was taken or executed
abbrev pub IsIdle : WorkerView → WorkerView → Type 0
IsIdle old new = (new.taken ≡ old.taken) × (new.executed ≡ old.executed)

-- `runs` is the gate's view after one execution with a ticket, by the view before it
module _ {G : Type 0} (runs : G → ℕ → G) where
  -- by what was kept before the step. A kept result is given, or still kept, and the gate is left alone. Else nothing was found and nothing changed, or a job was taken, its one execution told to the gate, and its result given or kept
  abbrev pub StepsFrom : Option Finished → WorkerView → G → Worked → WorkerView → G → Type 0
  StepsFrom (Some done) old view worked new view' = IsIdle old new × (view' ≡ view) × Gives old done worked new
  StepsFrom None old view Nothing new view' = IsIdle old new × (view' ≡ view) × (new.given ≡ old.given) × (new.kept ≡ None) × (new.free ≡ old.free)
  StepsFrom None old view Did new view' = (job : Job) × Takes old job new × (view' ≡ runs view job.ticket) × Gives old (result_of job) Did new
  StepsFrom None old view Held new view' = (job : Job) × Takes old job new × (view' ≡ runs view job.ticket) × Gives old (result_of job) Held new

  abbrev pub Steps : WorkerView → G → Worked → WorkerView → G → Type 0
  Steps old view worked new view' = StepsFrom old.kept old view worked new view'
