-- A worker keeps what it has yet to give.
use Rattle.std.proofs.Common.{◌≡◌, ℕ, List, [], ◌∷◌, ◌++◌, map, sym, ap, ◌∙◌, subst}
use Rattle.std.proofs.lemmas.List.{map-append, append-nil}
use Rattle.std.specs.Prelude.{Option, Some, None}
use Rattle.nvme_pool.specs.declared.jobs.Job.{Job}
use Rattle.nvme_pool.specs.declared.jobs.Finished.{Finished}
use Rattle.nvme_pool.specs.declared.worker.Worked.{Worked}
use Rattle.nvme_pool.specs.declared.worker.Worked.TheVariants.{Did, Held, Nothing}
use Rattle.nvme_pool.specs.Jobs.{result_of}
use Rattle.nvme_pool.specs.Worker.{WorkerView, kept_list}
use Rattle.nvme_pool.specs.Steps.{Gives, Takes, StepsFrom, Steps}

-- the results of one more job are those given before and the one that is kept
pub keeps_one : (items more : List Job) (sent : List Finished) (kept : Option Finished) (job : Job) (done : Finished)
    → map result_of items ≡ sent ++ kept_list kept → kept ≡ None → more ≡ items ++ job ∷ [] → done ≡ result_of job → map result_of more ≡ sent ++ kept_list (Some done)
keeps_one items more sent kept job done was none grown is =
    let all : map result_of items ≡ sent = was ∙ ap (λ k. sent ++ kept_list k) none ∙ append-nil sent in
    ap (map result_of) grown ∙ map-append result_of items (job ∷ []) ∙ ap (λ xs. xs ++ result_of job ∷ []) all ∙ ap (λ d. sent ++ d ∷ []) (sym is)

module _ {G : Type 0} (runs : G → ℕ → G) where
  took_by : (old new : WorkerView) (view view' : G) (job : Job) (worked : Worked)
      → Takes old job new → view' ≡ runs view job.ticket → Gives old (result_of job) worked new → StepsFrom runs None old view worked new view'
  took_by old new view view' job Did takes ran gives = (job, takes, ran, gives)
  took_by old new view view' job Held takes ran gives = (job, takes, ran, gives)
  took_by old new view view' job Nothing takes ran gives = absurd gives

  -- `old` is what the worker was before the step, under another name `now`
  pub took : (old now new : WorkerView) (view view' : G) (job : Job) (done : Finished) (worked : Worked)
      → old ≡ now → old.kept ≡ None → done ≡ result_of job → Takes old job new → view' ≡ runs view job.ticket → Gives old done worked new → Steps runs now view worked new view'
  took old now new view view' job done worked same none is takes ran gives =
      let at : Gives old (result_of job) worked new = subst (λ d. Gives old d worked new) is gives in
      let P : WorkerView → Type 0 = λ o. Steps runs o view worked new view' in
      let Q : Option Finished → Type 0 = λ k. StepsFrom runs k old view worked new view' in
      subst P same (subst Q (sym none) (took_by old new view view' job worked takes ran at))
