-- What a front gained since an earlier time, weighed against what it handed over since then and what waits for its result (profile).
use Rattle.std.specs.Prelude.{◌≡◌, ℕ, ◌+◌, List, sum_by}
use Rattle.nvme_lane.specs.View.{GetView}
use Rattle.nvme_pool.specs.declared.jobs.Job.{Job}
use Rattle.nvme_pool.specs.declared.jobs.Finished.{Finished}
use Rattle.nvme_pool.specs.Jobs.{result_of}
use Rattle.nvme_jobs.specs.declared.dispatched.Dispatched.{Dispatched}
use Rattle.nvme_jobs.specs.Hands.{Hands, job_in}

-- by a weight of results: those that were gained, those that commands wait for, and those of the jobs that were handed over
abbrev pub gained_weight : (Finished → ℕ) → Hands → ℕ
gained_weight w h = sum_by (λ (g : GetView Finished). sum_by w g.got) h.seat.ends

abbrev pub awaited_weight : List ℕ → (Finished → ℕ) → Hands → ℕ
awaited_weight sizes w h = sum_by (λ (d : Dispatched). w (result_of (job_in sizes d))) h.running

abbrev pub handed_weight : (Finished → ℕ) → Hands → ℕ
handed_weight w h = sum_by (λ (j : Job). w (result_of j)) h.seat.handed

-- however results are weighed: what was gained since an earlier time is these strays, and results that were waited for then or are of jobs that
-- were handed over since, and are no longer waited for
abbrev pub Balances : List ℕ → Hands → Hands → List Finished → Type 0
Balances sizes old new strays =
    (w : Finished → ℕ)
    → gained_weight w new + awaited_weight sizes w new + handed_weight w old
    ≡ gained_weight w old + awaited_weight sizes w old + handed_weight w new + sum_by w strays
