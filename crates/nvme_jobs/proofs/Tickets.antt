-- Of the jobs of picked places each ticket is that of one job.
use Rattle.std.proofs.Common.{◌≡◌, ◌∙◌, ◌==◌, ℕ, ◌+◌, ◌<◌, ◌≤◌, List, [], ◌∷◌, length, Some, zero, suc, ap, refl, subst, arith, ⊎_elim}
use Rattle.std.specs.Prelude.{slice_get}
use Rattle.std.specs.List.{sum_by}
use Rattle.std.proofs.lemmas.Bool.{eq-eqb, ne_eqb}
use Rattle.std.proofs.lemmas.Option.{none-some, same_Some, slice_get_within}
use Rattle.std.proofs.lemmas.List.Sums.{sum_by-cons}
use Rattle.std.proofs.Math.Nat.{eq-or-lt_of_le}
use Rattle.nvme_pool.specs.declared.jobs.Job.{Job}
use Rattle.nvme_pool.specs.declared.jobs.Finished.{Finished}
use Rattle.nvme_pool.specs.Jobs.{result_of}
use Rattle.nvme_pool.proofs.Retiring.{sum_by_map}
use Rattle.nvme_log.specs.Rules.{Past}
use Rattle.nvme_log.specs.Places.{one_if}
use Rattle.nvme_log.specs.declared.place.Place.{Place}
use Rattle.nvme_log.specs.Dispatches.{dispatched}
use Rattle.nvme_jobs.specs.Executions.{AreJobs, IsJobOf, EachIsExecutedOnce}

-- 1 for a job with a ticket
abbrev with_ticket : ℕ → Job → ℕ
with_ticket k j = one_if (j.ticket == k)

-- no job has a ticket below that from which they count
none_below : (sizes : List ℕ) (past : Past) (t : ℕ) (ps : List Place) (js : List Job) → AreJobs sizes past t ps js → (k : ℕ) → k < t → sum_by (with_ticket k) js ≡ 0
none_below sizes past t [] [] h k below = refl
none_below sizes past t (p ∷ ps) (j ∷ js) h k below =
    let first : with_ticket k j ≡ 0 = ap one_if (ne_eqb j.ticket k (λ same. omega (arith, below, same, h.0.ticket_is))) in
    let rest = none_below sizes past (t + 1) ps js h.1 k (omega (arith, below)) in
    omega (arith, sum_by-cons (with_ticket k) j js, first, rest)
none_below sizes past t [] (j ∷ js) h k below = absurd h
none_below sizes past t (p ∷ ps) [] h k below = absurd h

-- one has each ticket from there on
one_there : (sizes : List ℕ) (past : Past) (t : ℕ) (ps : List Place) (js : List Job) → AreJobs sizes past t ps js → (k : ℕ) → t ≤ k → k < t + length ps
    → sum_by (with_ticket k) js ≡ 1
one_there sizes past t [] [] h k from below = absurd (omega (arith, from, below))
one_there sizes past t (p ∷ ps) (j ∷ js) h k from below =
    let parts = sum_by-cons (with_ticket k) j js in
    ⊎_elim (λ (same : t ≡ k).
    let first : with_ticket k j ≡ 1 = ap one_if (eq-eqb j.ticket k (h.0.ticket_is ∙ same)) in
    let rest = none_below sizes past (t + 1) ps js h.1 k (omega (arith, same)) in
    omega (arith, parts, first, rest))
    (λ (later : t < k).
    let first : with_ticket k j ≡ 0 = ap one_if (ne_eqb j.ticket k (λ same. omega (arith, later, same, h.0.ticket_is))) in
    let rest = one_there sizes past (t + 1) ps js h.1 k (omega (arith, later)) (omega (arith, below)) in
    omega (arith, parts, first, rest))
    (eq-or-lt_of_le from)
one_there sizes past t [] (j ∷ js) h k from below = absurd h
one_there sizes past t (p ∷ ps) [] h k from below = absurd h

-- the job of a place stands where the place stands
pub job_there : (sizes : List ℕ) (past : Past) (t : ℕ) (ps : List Place) (js : List Job) → AreJobs sizes past t ps js → (k : ℕ) (place : Place) → slice_get ps k ≡ Some place
    → (job : Job) × (slice_get js k ≡ Some job) × IsJobOf sizes past (t + k) place job
job_there sizes past t [] [] h k place is = absurd (none-some place is)
job_there sizes past t (p ∷ ps) (j ∷ js) h zero place is =
    (j, refl, subst (λ (z : Place). IsJobOf sizes past (t + 0) z j) (same_Some p place is) (subst (λ (n : ℕ). IsJobOf sizes past n p j) (omega arith) h.0))
job_there sizes past t (p ∷ ps) (j ∷ js) h (suc k) place is =
    let rest = job_there sizes past (t + 1) ps js h.1 k place is in
    (rest.0, rest.1, subst (λ (n : ℕ). IsJobOf sizes past n place rest.0) (omega arith) rest.2)
job_there sizes past t [] (j ∷ js) h k place is = absurd h
job_there sizes past t (p ∷ ps) [] h k place is = absurd h

pub each-is_executed_once : EachIsExecutedOnce
each-is_executed_once sizes past seat workers h k place is =
    let there = job_there sizes past 0 (dispatched past) seat.handed h.jobs_are k place is in
    let below = slice_get_within (dispatched past) k place is in
    let one : sum_by (with_ticket k) seat.handed ≡ 1 = one_there sizes past 0 (dispatched past) seat.handed h.jobs_are k (omega arith) (omega (arith, below)) in
    record {
      job = there.0;
      handed = there.1;
      is_of_place = subst (λ (n : ℕ). IsJobOf sizes past n place there.0) (omega arith) there.2;
      taken = h.taken (with_ticket k) ∙ one;
      executed = h.executed (with_ticket k) ∙ one;
      gained = h.gained (λ (f : Finished). one_if (f.ticket == k)) ∙ (sum_by_map result_of (λ (f : Finished). one_if (f.ticket == k)) seat.handed ∙ one);
    }
