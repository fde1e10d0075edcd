-- Where a close left nothing, each job was executed and its result gained as often as it was handed.
use Rattle.std.proofs.Common.{◌≡◌, ℕ, List, [], ◌∷◌, ◌++◌, length, map, refl, sym, ap, ◌∙◌, arith, sum_by}
use Rattle.std.specs.Prelude.{None}
use Rattle.std.specs.List.{All}
use Rattle.std.proofs.lemmas.List.{append-nil, nil_from_length}
use Rattle.std.proofs.lemmas.List.Elements.{All-head, All-tail}
use Rattle.std.proofs.lemmas.List.Sums.{sum_by-cons}
use Rattle.nvme_lane.specs.View.{GetView}
use Rattle.nvme_pool.specs.declared.jobs.Job.{Job}
use Rattle.nvme_pool.specs.declared.jobs.Finished.{Finished}
use Rattle.nvme_pool.specs.Jobs.{result_of}
use Rattle.nvme_pool.specs.Seat.{Ends}
use Rattle.nvme_pool.specs.Worker.{WorkerView, Accounts, kept_list}
use Rattle.nvme_pool.specs.Closing.{GainedThenLeft, IsAllDone}
use Rattle.nvme_pool.proofs.Retiring.{sum_by_map}

executed_all : (h : Job → ℕ) (workers : List WorkerView) → All Accounts workers → sum_by (λ (w : WorkerView). sum_by h w.executed) workers ≡ sum_by (λ (w : WorkerView). sum_by h w.taken) workers
executed_all h [] all = refl
executed_all h (w ∷ ws) all = omega (
  arith,
  sum_by-cons (λ (v : WorkerView). sum_by h v.executed) w ws,
  sum_by-cons (λ (v : WorkerView). sum_by h v.taken) w ws,
  ap (sum_by h) (All-head Accounts w ws all).executions,
  executed_all h ws (All-tail Accounts w ws all),
)

abbrev KeepsNone : WorkerView → Type 0
KeepsNone w = w.kept ≡ None

-- what such a worker gave is the results of its executions
gave : (w : WorkerView) → Accounts w → KeepsNone w → w.given ≡ map result_of w.executed
gave w accounts none = sym (accounts.results ∙ ap (λ k. w.given ++ kept_list k) none ∙ append-nil w.given)

gained_all : (h : Finished → ℕ) (ends : Ends) (workers : List WorkerView) (left : List (List Finished)) → sum_by (λ (xs : List Finished). length xs) left ≡ 0
    → GainedThenLeft ends workers left → All Accounts workers → All KeepsNone workers
    → sum_by (λ (g : GetView Finished). sum_by h g.got) ends ≡ sum_by (λ (w : WorkerView). sum_by (λ j. h (result_of j)) w.executed) workers
gained_all h [] [] [] none shared all kept = refl
gained_all h [] [] (x ∷ xs) none shared all kept = absurd shared
gained_all h [] (w ∷ ws) left none shared all kept = absurd shared
gained_all h (g ∷ gs) [] left none shared all kept = absurd shared
gained_all h (g ∷ gs) (w ∷ ws) [] none shared all kept = absurd shared
gained_all h (g ∷ gs) (w ∷ ws) (rest ∷ rests) none shared all kept =
    let number = sum_by-cons (λ (xs : List Finished). length xs) rest rests in
    let none_here : length rest ≡ 0 = omega arith in
    let none_more : sum_by (λ (xs : List Finished). length xs) rests ≡ 0 = omega arith in
    let got : w.given ≡ g.got = shared.0 ∙ ap (λ xs. g.got ++ xs) (nil_from_length rest none_here) ∙ append-nil g.got in
    let results : g.got ≡ map result_of w.executed = sym got ∙ gave w (All-head Accounts w ws all) (All-head KeepsNone w ws kept) in
    omega (
      arith,
      sum_by-cons (λ (e : GetView Finished). sum_by h e.got) g gs,
      sum_by-cons (λ (v : WorkerView). sum_by (λ j. h (result_of j)) v.executed) w ws,
      ap (sum_by h) results,
      sum_by_map result_of h w.executed,
      gained_all h gs ws rests none_more shared.1 (All-tail Accounts w ws all) (All-tail KeepsNone w ws kept),
    )

pub each_executed : (handed : List Job) (ends : Ends) (workers : List WorkerView) → IsAllDone handed ends workers → (h : Job → ℕ)
    → sum_by (λ (w : WorkerView). sum_by h w.executed) workers ≡ sum_by h handed
each_executed handed ends workers done h =
    let none : sum_by h done.jobs.left ≡ 0 = ap (sum_by h) (nil_from_length done.jobs.left done.jobs.number) in
    omega (arith, done.jobs.shares h, executed_all h workers done.accounts)

pub each_gained : (handed : List Job) (ends : Ends) (workers : List WorkerView) → IsAllDone handed ends workers → (h : Finished → ℕ)
    → sum_by (λ (g : GetView Finished). sum_by h g.got) ends ≡ sum_by h (map result_of handed)
each_gained handed ends workers done h =
    gained_all h ends workers done.results.left done.results.number done.results.shares done.accounts done.kept
    ∙ each_executed handed ends workers done (λ j. h (result_of j)) ∙ sym (sum_by_map result_of h handed)
