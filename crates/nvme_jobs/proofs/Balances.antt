-- How the steps of jobs weigh what was gained against what was handed.
use Rattle.std.proofs.Common.{◌≡◌, ℕ, List, [], ◌∷◌, sym, ap, subst, arith}
use Rattle.std.specs.Prelude.{sum_by}
use Rattle.std.proofs.lemmas.List.Sums.{sum_by-append}
use Rattle.nvme_lane.specs.View.{GetView}
use Rattle.nvme_pool.specs.Seat.{Ends, SeatView}
use Rattle.nvme_pool.specs.Jobs.{result_of}
use Rattle.nvme_pool.specs.declared.jobs.Job.{Job}
use Rattle.nvme_pool.specs.declared.jobs.Finished.{Finished}
use Rattle.nvme_jobs.specs.declared.dispatched.Dispatched.{Dispatched}
use Rattle.nvme_jobs.specs.Hands.{Hands, job_in}
use Rattle.nvme_jobs.specs.inside.Jobs.{JobsView, HandsOne, GainsOne, GainsStray}
use Rattle.nvme_jobs.specs.Balance.{Balances}
use Rattle.nvme_jobs.proofs.JobAccounts.{result_is, sum_by-gained_one, sum_by-gained, sum_by-one}

-- where nothing was handed and nothing gained
pub balances-same : (sizes : List ℕ) (old new : Hands) → new.seat ≡ old.seat → new.running ≡ old.running → Balances sizes old new []
balances-same sizes old new seat running = λ w.
    omega (
      arith,
      ap (λ (s : SeatView). sum_by (λ (g : GetView Finished). sum_by w g.got) s.ends) seat,
      ap (λ (ds : List Dispatched). sum_by (λ (d : Dispatched). w (result_of (job_in sizes d))) ds) running,
      ap (λ (s : SeatView). sum_by (λ (j : Job). w (result_of j)) s.handed) seat,
    )

-- where the jobs are the same
pub balances-still : (sizes : List ℕ) (old new : JobsView) → new ≡ old → Balances sizes old.hands new.hands []
balances-still sizes old new same = balances-same sizes old.hands new.hands (ap (λ (j : JobsView). j.hands.seat) same) (ap (λ (j : JobsView). j.hands.running) same)

-- first without strays, and then with these
pub balances-trans : (sizes : List ℕ) (a b c : Hands) (strays : List Finished) → Balances sizes a b [] → Balances sizes b c strays → Balances sizes a c strays
balances-trans sizes a b c strays first next = λ w. omega (arith, first w, next w)

-- where a job was handed
pub balances-handed : (sizes : List ℕ) (old new : JobsView) → HandsOne sizes old new → Balances sizes old.hands new.hands []
balances-handed sizes old new h = subst (λ (j : JobsView). Balances sizes old.hands j.hands []) (sym h.are) (λ w.
    let of_job : Job → ℕ = λ j. w (result_of j) in
    let of_command : Dispatched → ℕ = λ d. w (result_of (job_in sizes d)) in
    omega (
      arith,
      ap (λ (e : Ends). sum_by (λ (g : GetView Finished). sum_by w g.got) e) h.can.ends,
      ap (sum_by of_job) h.can.handed,
      sum_by-append of_job old.hands.seat.handed (job_in sizes h.dispatched ∷ []),
      sum_by-one of_job (job_in sizes h.dispatched),
      sum_by-append of_command old.hands.running (h.dispatched ∷ []),
      sum_by-one of_command h.dispatched,
    ))

-- where the result of a job was gained
pub balances-gained : (sizes : List ℕ) (old new : JobsView) (d : Dispatched) (result : Finished) → GainsOne sizes old new d result
    → Balances sizes old.hands new.hands []
balances-gained sizes old new d result h = subst (λ (j : JobsView). Balances sizes old.hands j.hands []) (sym h.are) (λ w.
    let of_job : Job → ℕ = λ j. w (result_of j) in
    let of_command : Dispatched → ℕ = λ d. w (result_of (job_in sizes d)) in
    omega (
      arith,
      sum_by-gained w old.hands.seat.ends h.seat.ends result h.can.gained,
      ap w (result_is result (job_in sizes d) h.its.its_job),
      ap (sum_by of_job) h.can.handed,
      sum_by-gained_one of_command old.hands.running d h.rest h.its.running_is,
    ))

-- where a stray was gained
pub balances-stray : (sizes : List ℕ) (old new : JobsView) (ticket : ℕ) (h : GainsStray sizes old new ticket) → Balances sizes old.hands new.hands (h.result ∷ [])
balances-stray sizes old new ticket h = subst (λ (j : JobsView). Balances sizes old.hands j.hands (h.result ∷ [])) (sym h.are) (λ w.
    let of_job : Job → ℕ = λ j. w (result_of j) in
    omega (
      arith,
      sum_by-gained w old.hands.seat.ends h.seat.ends h.result h.can.gained,
      ap (sum_by of_job) h.can.handed,
      sum_by-one w h.result,
    ))
