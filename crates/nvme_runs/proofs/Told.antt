-- Which executions gates were told of.
use Rattle.std.proofs.Common.{◌≡◌, ℕ, ◌+◌, List, [], ◌∷◌, ◌++◌, length, map, refl, sym, ap, ◌∙◌, sum_by}
use Rattle.std.proofs.lemmas.List.Folds.{fold-map}
use Rattle.std.proofs.lemmas.List.Elements.{All-head, All-tail}
use Rattle.std.specs.List.{All, range_with_len}
use Rattle.nvme_pool.specs.declared.jobs.Job.{Job}
use Rattle.nvme_pool.specs.Worker.{WorkerView, IsFresh}
use Rattle.nvme_pool.specs.Seat.{SeatView}
use Rattle.nvme_pool.proofs.Retiring.{sum_by_map}
use Rattle.nvme_log.specs.Rules.{Past}
use Rattle.nvme_log.specs.declared.place.Place.{Place}
use Rattle.nvme_log.specs.Dispatches.{dispatched}
use Rattle.nvme_jobs.specs.Executions.{AreJobs, ExecutesOnce}
use Rattle.nvme_threads.specs.Runs.{AllRan}
use Rattle.nvme_runs.specs.Runs.{AreTold, GatesRan, view_after}

-- sums of the same numbers
sum_by-same : {X : Type 0} (f g : X → ℕ) (xs : List X) → ((x : X) → f x ≡ g x) → sum_by f xs ≡ sum_by g xs
sum_by-same {X = X} f g xs h = ap (λ (z : X → ℕ). sum_by z xs) (λ i x. h x i)

-- the ticket of a job
abbrev ticket_of : Job → ℕ
ticket_of j = j.ticket

-- the tickets of the jobs that a worker executed, in order
abbrev tickets_of : WorkerView → List ℕ
tickets_of w = map ticket_of w.executed

-- the tickets of the jobs of places count
tickets_count : (sizes : List ℕ) (past : Past) (ticket : ℕ) (ps : List Place) (js : List Job) → AreJobs sizes past ticket ps js → map ticket_of js ≡ range_with_len ticket (length ps)
tickets_count sizes past ticket [] [] h = refl
tickets_count sizes past ticket [] (j ∷ js) h = absurd h
tickets_count sizes past ticket (p ∷ ps) [] h = absurd h
tickets_count sizes past ticket (p ∷ ps) (j ∷ js) h =
    ap (λ z. z ∷ map ticket_of js) h.0.ticket_is ∙ ap (λ z. ticket ∷ z) (tickets_count sizes past (ticket + 1) ps js h.1)

module _ {G : Type 0} (runs : G → ℕ → G) where
  -- each gate of workers that had executed nothing was told of what its worker executed
  told_of_all : (ws : List WorkerView) (vs : List G) (ws' : List WorkerView) (vs' : List G) → All IsFresh ws → AllRan runs ws vs ws' vs' → AreTold runs vs (map tickets_of ws') vs'
  told_of_all [] [] [] [] fresh h = tt
  told_of_all (w ∷ ws) (v ∷ vs) (w' ∷ ws') (v' ∷ vs') fresh h =
      let only : w'.executed ≡ h.0.more = h.0.executed ∙ ap (λ z. z ++ h.0.more) (All-head IsFresh w ws fresh).executed in (
        h.0.told ∙ sym (fold-map runs ticket_of v h.0.more) ∙ ap (λ (js : List Job). view_after runs v (map ticket_of js)) (sym only),
        told_of_all ws vs ws' vs' (All-tail IsFresh w ws fresh) h.1,
      )
  told_of_all ws vs ws' vs' fresh h = absurd h

  -- the gates ran as the workers that had executed nothing before
  pub gates_ran : (sizes : List ℕ) (past : Past) (seat : SeatView) (ws : List WorkerView) (vs : List G) (ws' : List WorkerView) (vs' : List G)
      → All IsFresh ws → AllRan runs ws vs ws' vs' → ExecutesOnce sizes past seat ws' → GatesRan runs vs vs' past
  gates_ran sizes past seat ws vs ws' vs' fresh ran once = record {
    tickets = map tickets_of ws';
    told = told_of_all ws vs ws' vs' fresh ran;
    once = λ w.
        sum_by_map tickets_of (λ (ts : List ℕ). sum_by w ts) ws'
        ∙ sum_by-same (λ (x : WorkerView). sum_by w (tickets_of x)) (λ (x : WorkerView). sum_by (λ (j : Job). w j.ticket) x.executed) ws' (λ x. sum_by_map ticket_of w x.executed)
        ∙ once.executed (λ (j : Job). w j.ticket)
        ∙ sym (sum_by_map ticket_of w seat.handed)
        ∙ ap (λ (ts : List ℕ). sum_by w ts) (tickets_count sizes past 0 (dispatched past) seat.handed once.jobs_are);
  }
