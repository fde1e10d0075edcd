-- The jobs of places, and sums over jobs and results.
use Rattle.std.proofs.Common.{◌≡◌, ℕ, ◌+◌, List, [], ◌∷◌, ◌++◌, length, Some, refl, sym, ap, ◌∙◌, subst, arith}
use Rattle.std.specs.Prelude.{sum_by, All}
use Rattle.std.specs.List.{flat_map}
use Rattle.std.specs.List.Sorted.{IsPermutation}
use Rattle.std.proofs.Math.Nat.{ℕ_set}
use Rattle.std.proofs.lemmas.List.Concat.{flat_map-cons}
use Rattle.std.proofs.lemmas.List.Sums.{sum_by-append, sum_by-cons}
use Rattle.std.proofs.lemmas.List.Sorted.{All-permutation, sum_by-IsPermutation, IsPermutation-append_left}
use Rattle.nvme_entry.specs.declared.submission.Sqe.{Sqe}
use Rattle.nvme_entry.specs.Status.{StatusCode}
use Rattle.nvme_entry.specs.Outcome.{outcome_of}
use Rattle.nvme_lane.specs.View.{GetView}
use Rattle.nvme_pool.specs.Seat.{Ends, OneGained}
use Rattle.nvme_pool.specs.Jobs.{result_of, job_of}
use Rattle.nvme_pool.specs.declared.jobs.Job.{Job}
use Rattle.nvme_pool.specs.declared.jobs.Finished.{Finished}
use Rattle.nvme_log.specs.Rules.{Past}
use Rattle.nvme_log.specs.Places.{entry_at}
use Rattle.nvme_log.specs.declared.place.Place.{Place}
use Rattle.nvme_jobs.specs.Executions.{AreJobs}
use Rattle.nvme_jobs.specs.declared.dispatched.Dispatched.{Dispatched}
use Rattle.nvme_jobs.specs.Hands.{Hands, in_hand}

-- ---- jobs of places
-- jobs of places stay theirs in a log that keeps the entries
pub AreJobs-stay : (sizes : List ℕ) (past later : Past) → ((r i : ℕ) (e : Sqe) → entry_at past r i ≡ Some e → entry_at later r i ≡ Some e)
    → (ticket : ℕ) (ps : List Place) (js : List Job) → AreJobs sizes past ticket ps js → AreJobs sizes later ticket ps js
AreJobs-stay sizes past later stay ticket [] [] h = tt
AreJobs-stay sizes past later stay ticket [] (j ∷ js) h = absurd h
AreJobs-stay sizes past later stay ticket (p ∷ ps) [] h = absurd h
AreJobs-stay sizes past later stay ticket (p ∷ ps) (j ∷ js) h = (
  record { ticket_is = h.0.ticket_is; entry_is = stay p.region p.index j.entry h.0.entry_is; spaces_are = h.0.spaces_are },
  AreJobs-stay sizes past later stay (ticket + 1) ps js h.1,
)

-- the jobs of more places have the tickets that follow
pub AreJobs-append : (sizes : List ℕ) (past : Past) (ticket : ℕ) (ps qs : List Place) (js ks : List Job)
    → AreJobs sizes past ticket ps js → AreJobs sizes past (ticket + length ps) qs ks → AreJobs sizes past ticket (ps ++ qs) (js ++ ks)
AreJobs-append sizes past ticket [] qs [] ks h more = subst (λ (n : ℕ). AreJobs sizes past n qs ks) (omega arith) more
AreJobs-append sizes past ticket [] qs (j ∷ js) ks h more = absurd h
AreJobs-append sizes past ticket (p ∷ ps) qs [] ks h more = absurd h
AreJobs-append sizes past ticket (p ∷ ps) qs (j ∷ js) ks h more =
    let next : ticket + length (p ∷ ps) ≡ ticket + 1 + length ps = omega arith in
    (h.0, AreJobs-append sizes past (ticket + 1) ps qs js ks h.1 (subst (λ (n : ℕ). AreJobs sizes past n qs ks) next more))

-- what holds of each command in hand holds of the one whose result is gained, and of each that is left in hand
pub each-gained : (P : Dispatched → Type 0) (h : Hands) (d : Dispatched) (rest : List Dispatched) → IsPermutation h.running (d ∷ rest)
    → All P (in_hand h) → All P (d ∷ (rest ++ h.unhanded))
each-gained P h d rest same each =
    All-permutation P (in_hand h) (d ∷ (rest ++ h.unhanded)) (IsPermutation-append_left h.unhanded h.running (d ∷ rest) same) each

-- ---- sums
-- a sum over what each item has is that over all of it
pub sum_by-flat_map : {X A : Type 0} (w : A → ℕ) (f : X → List A) (xs : List X) → sum_by (λ (x : X). sum_by w (f x)) xs ≡ sum_by w (flat_map f xs)
sum_by-flat_map {X = X} w f [] = refl
sum_by-flat_map {X = X} w f (x ∷ xs) =
    sum_by-cons (λ (y : X). sum_by w (f y)) x xs
    ∙ ap (λ (n : ℕ). sum_by w (f x) + n) (sum_by-flat_map w f xs)
    ∙ sym (ap (sum_by w) (flat_map-cons f x xs) ∙ sum_by-append w (f x) (flat_map f xs))

-- a sum over a list with one item among others
pub sum_by-among : {X : Type 0} (w : X → ℕ) (before : List X) (x : X) (after : List X) → sum_by w (before ++ x ∷ after) ≡ sum_by w (before ++ after) + w x
sum_by-among w before x after = omega (arith, sum_by-append w before (x ∷ after), sum_by-append w before after, sum_by-cons w x after)

-- a sum over the running commands is that over the one whose result is gained and over the rest
pub sum_by-gained_one : {X : Type 0} (w : X → ℕ) (running : List X) (d : X) (rest : List X) → IsPermutation running (d ∷ rest)
    → sum_by w running ≡ w d + sum_by w rest
sum_by-gained_one w running d rest same = omega (arith, sum_by-IsPermutation w running (d ∷ rest) same, sum_by-cons w d rest)

-- a sum over one item
pub sum_by-one : {X : Type 0} (w : X → ℕ) (x : X) → sum_by w (x ∷ []) ≡ w x
sum_by-one w x = omega (arith, sum_by-cons w x [])

-- a sum over what was gained grows by the result that is gained
pub sum_by-gained : (w : Finished → ℕ) (old new : Ends) (result : Finished) → OneGained old new result
    → sum_by (λ (g : GetView Finished). sum_by w g.got) new ≡ sum_by (λ (g : GetView Finished). sum_by w g.got) old + w result
sum_by-gained w old new result g =
    let each : GetView Finished → ℕ = λ g. sum_by w g.got in
    omega (
      arith,
      ap (sum_by each) g.were,
      ap (sum_by each) g.are,
      sum_by-among each g.before g.end g.after,
      sum_by-among each g.before g.end' g.after,
      ap (sum_by w) g.got,
      sum_by-append w g.end.got (result ∷ []),
      sum_by-one w result,
    )

-- ---- results
-- the type of status codes is a set
status_set : IsSet StatusCode
status_set = hlevel ℕ_set

-- a result with any proof that its status is right is the one that the job has
right_status : (ticket : ℕ) (entry : Sqe) (spaces : List ℕ) (status : StatusCode) (right : status ≡ outcome_of entry spaces)
    → record { ticket = ticket; entry = entry; spaces = spaces; status = status; right = right } ≡ result_of (record { ticket = ticket; entry = entry; spaces = spaces })
right_status ticket entry spaces status right =
    subst (λ (x : StatusCode). (p : x ≡ outcome_of entry spaces)
    → record { ticket = ticket; entry = entry; spaces = spaces; status = x; right = p } ≡ result_of (record { ticket = ticket; entry = entry; spaces = spaces }))
    (sym right) same right where
      same : (p : outcome_of entry spaces ≡ outcome_of entry spaces)
          → record { ticket = ticket; entry = entry; spaces = spaces; status = outcome_of entry spaces; right = p } ≡ result_of (record { ticket = ticket; entry = entry; spaces = spaces })
      same p =
          ap (λ (q : outcome_of entry spaces ≡ outcome_of entry spaces). record { ticket = ticket; entry = entry; spaces = spaces; status = outcome_of entry spaces; right = q })
          (status_set (outcome_of entry spaces) (outcome_of entry spaces) p refl)

-- the result of a job is the one that the job has
pub result_is : (f : Finished) (j : Job) → job_of f ≡ j → f ≡ result_of j
result_is f j e = right_status f.ticket f.entry f.spaces f.status f.right ∙ ap (λ (x : Job). result_of x) e
