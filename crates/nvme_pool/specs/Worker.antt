-- What contracts see of a worker (profile).
use Rattle.std.specs.Prelude.{◌≡◌, ℕ, ◌+◌, List, [], ◌∷◌, ◌++◌, map, Option, Some, None}
use Rattle.nvme_lane.specs.Passes.{LaneView}
use Rattle.nvme_pool.specs.declared.jobs.Job.{Job}
use Rattle.nvme_pool.specs.declared.jobs.Finished.{Finished}
use Rattle.nvme_pool.specs.Jobs.{result_of}
use Rattle.nvme_pool.specs.Limits.{result_slots}
use Rattle.nvme_pool.specs.Place.{Place}

-- the lane that it takes from with its parts of that lane, the ring that it gives to with the places of it that are known to be free, the jobs that it took, the executions that it made, the results that it gave, and the one that it keeps
pub record WorkerView : Type 0 where
  pub lane : LaneView
  pub parts : ℕ
  pub ring : Place
  pub free : ℕ
  pub taken : List Job
  pub executed : List Job
  pub given : List Finished
  pub kept : Option Finished

abbrev pub kept_list : Option Finished → List Finished
kept_list None = []
kept_list (Some x) = x ∷ []

-- `executed` is the list taken, by its second name: that each of these jobs was executed, once, is said by what its gate was told (`Steps` of one step, `Ran` of many). The results given are those of the executions, in order, but for one that is kept
pub record Accounts (w : WorkerView) : Type 0 where
  pub executions : w.executed ≡ w.taken
  pub results : map result_of w.executed ≡ w.given ++ kept_list w.kept

-- it took, executed and gave nothing, keeps nothing, and knows its whole ring to be free
pub record IsFresh (w : WorkerView) : Type 0 where
  pub taken : w.taken ≡ []
  pub executed : w.executed ≡ []
  pub given : w.given ≡ []
  pub kept : w.kept ≡ None
  pub all_free : w.free + 1 ≡ result_slots

-- what stays of a worker under every step
pub record Identity : Type 0 where
  pub lane : LaneView
  pub parts : ℕ
  pub ring : Place

abbrev pub identity_of : WorkerView → Identity
identity_of w = record { lane = w.lane; parts = w.parts; ring = w.ring }

-- the same workers in the same order, after some steps
abbrev pub SameWorkers : List WorkerView → List WorkerView → Type 0
SameWorkers old new = map identity_of new ≡ map identity_of old

-- the same worker, after some steps
pub record SameWorker (old new : WorkerView) : Type 0 where
  pub lane : new.lane ≡ old.lane
  pub parts : new.parts ≡ old.parts
  pub ring : new.ring ≡ old.ring
