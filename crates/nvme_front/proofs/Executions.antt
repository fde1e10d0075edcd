-- That each job was executed once, when a pool was closed.
use Rattle.std.proofs.Common.{◌≡◌, ℕ, ◌+◌, ◌≤◌, Bool, true, false, not, nat_lt, ◌==◌, ◌&&◌, ◌||◌, List, [], ◌∷◌, ◌++◌, length, map, Some, None, refl, sym, ap, subst, ◌∙◌, arith, inl, inr, sum_by, length-append}
use Rattle.std.specs.Prelude.{reverse}
use Rattle.std.specs.List.{All, list_any}
use Rattle.std.proofs.lemmas.Bool.{and_parts, eqb-true, ltb-true}
use Rattle.std.proofs.lemmas.List.{append-nil, length-map, nil_from_length}
use Rattle.std.proofs.lemmas.List.Elements.{All-head, All-tail}
use Rattle.std.proofs.lemmas.List.Sums.{sum_by-cons}
use Rattle.nvme_lane.specs.View.{GetView}
use Rattle.nvme_pool.specs.Closing.{GainedThenLeft, IsAllDone}
use Rattle.nvme_pool.specs.Jobs.{result_of}
use Rattle.nvme_pool.specs.Seat.{Ends}
use Rattle.nvme_pool.specs.Worker.{WorkerView, Accounts, kept_list}
use Rattle.nvme_pool.specs.declared.jobs.Job.{Job}
use Rattle.nvme_pool.specs.declared.jobs.Finished.{Finished}
use Rattle.nvme_pool.proofs.Once.{each_executed, each_gained}
use Rattle.nvme_log.specs.declared.event.Event.{Event}
use Rattle.nvme_jobs.specs.declared.dispatched.Dispatched.{Dispatched}
use Rattle.nvme_front.specs.declared.state.FrontState.{FrontState}
use Rattle.nvme_log.specs.Rules.{Past}
use Rattle.nvme_log.specs.Completions.{is_posted}
use Rattle.nvme_jobs.specs.JobAccount.{AccountsForJobs}
use Rattle.nvme_jobs.specs.Hands.{Hands, in_hand, is_in_hand, job_in}
use Rattle.nvme_front.specs.View.{FrontView, NoneInHandPosted, past_in}
use Rattle.nvme_log.specs.Account.{IsClear}
use Rattle.nvme_log.specs.Places.{fetched, fate_of, is_waiting, is_served, one_if}
use Rattle.nvme_log.specs.Dispatches.{dispatched, place_at}
use Rattle.nvme_jobs.specs.Executions.{AreJobs, ExecutesOnce}
use Rattle.nvme_log.proofs.Posts.{posts_of-some, all_below}
use Rattle.nvme_ctrl_log.specs.Notes.{Notes, logged}
use Rattle.nvme_ctrl.proofs.OutPlaces.{IsOutPlace, out_is}
use Rattle.nvme_ctrl.proofs.UnpostedPlaces as tagged
use Rattle.nvme_jobs.specs.inside.Jobs.{IsClosed}
use Rattle.nvme_jobs.specs.inside.Standing.{PostedAreServed}
use Rattle.nvme_jobs.proofs.JobSteps.{jobs-when-fresh}
use Rattle.nvme_front.specs.inside.Room.{IsConsistent, IsRunning, IsTagged}
use Rattle.nvme_front.specs.inside.State.{past_of, view_of}
use Rattle.nvme_front.proofs.Ended.{admin_or_not}

-- a worker keeps no result
abbrev pub KeepsNone : WorkerView → Type 0
KeepsNone w = w.kept ≡ None

-- ---- counts
-- a list that is weighed with 1 for each item weighs its length
sum_ones : {X : Type 0} (xs : List X) → sum_by (λ (x : X). 1) xs ≡ length xs
sum_ones [] = refl
sum_ones {X = X} (x ∷ xs) = omega (arith, sum_by-cons (λ (y : X). 1) x xs, sum_ones xs)

-- a worker that keeps none took as many jobs as results were got from its ring and are left there
took : (w : WorkerView) (got rest : List Finished) → Accounts w → KeepsNone w → w.given ≡ got ++ rest → length w.taken ≡ length got + length rest
took w got rest accounts none given =
    let results : map result_of w.executed ≡ got ++ rest = accounts.results ∙ ap (λ k. w.given ++ kept_list k) none ∙ append-nil w.given ∙ given in
    omega (arith, ap length accounts.executions, length-map w.executed result_of, ap length results, length-append got rest)

-- so did all the workers together, with their rings
took_all : (ends : Ends) (workers : List WorkerView) (left : List (List Finished)) → GainedThenLeft ends workers left → All Accounts workers → All KeepsNone workers
    → sum_by (λ (w : WorkerView). sum_by (λ (j : Job). 1) w.taken) workers
    ≡ sum_by (λ (g : GetView Finished). sum_by (λ (x : Finished). 1) g.got) ends + sum_by (λ (rest : List Finished). length rest) left
took_all [] [] [] shared all kept = refl
took_all [] [] (x ∷ xs) shared all kept = absurd shared
took_all [] (w ∷ ws) left shared all kept = absurd shared
took_all (g ∷ gs) [] left shared all kept = absurd shared
took_all (g ∷ gs) (w ∷ ws) [] shared all kept = absurd shared
took_all (g ∷ gs) (w ∷ ws) (rest ∷ rests) shared all kept = omega (
  arith,
  sum_by-cons (λ (v : WorkerView). sum_by (λ (j : Job). 1) v.taken) w ws,
  sum_by-cons (λ (e : GetView Finished). sum_by (λ (x : Finished). 1) e.got) g gs,
  sum_by-cons (λ (xs : List Finished). length xs) rest rests,
  sum_ones w.taken,
  sum_ones g.got,
  took w g.got rest (All-head Accounts w ws all) (All-head KeepsNone w ws kept) shared.0,
  took_all gs ws rests shared.1 (All-tail Accounts w ws all) (All-tail KeepsNone w ws kept),
)

-- ---- nothing in hand
module _ (sizes : List ℕ) (past : Past) (h : Hands) (workers : List WorkerView) (account : AccountsForJobs sizes past h) (running : h.running ≡ []) (unhanded : h.unhanded ≡ [])
    (before : h.came.handed ≡ []) (closed : IsClosed h.seat workers) (kept : All KeepsNone workers) where
  -- the jobs of the seat are those that the front handed
  handed_is : h.seat.handed ≡ account.handed
  handed_is = account.seat_handed ∙ ap (λ (js : List Job). js ++ account.handed) before

  -- as many are done
  done_count : length h.seat.handed ≡ length account.done
  done_count =
      let none : sum_by (λ (j : Job). 1) (map (job_in sizes) h.running) ≡ 0 = ap (λ (ds : List Dispatched). sum_by (λ (j : Job). 1) (map (job_in sizes) ds)) running in
      omega (arith, ap length handed_is, sum_ones account.handed, sum_ones account.done, account.each_handed (λ (j : Job). 1))

  -- as many jobs were taken as were handed, results are left, and other results were gained
  counted : length h.seat.handed + sum_by (λ (rest : List Finished). length rest) closed.results.left + sum_by (λ (x : Finished). 1) account.others
      ≡ sum_by (λ (w : WorkerView). sum_by (λ (j : Job). 1) w.taken) workers
  counted = omega (
    arith,
    done_count,
    sum_ones (map result_of account.done),
    length-map account.done result_of,
    account.each_gained (λ (x : Finished). 1),
    took_all h.seat.ends workers closed.results.left closed.results.shares closed.accounts kept,
  )

  -- no job is left
  no_job_left : closed.jobs_left ≡ 0
  no_job_left = omega (arith, counted, closed.jobs.shares (λ (j : Job). 1), sum_ones h.seat.handed, sum_ones closed.jobs.left, closed.jobs.number)

  -- no result is left
  no_result_left : closed.results_left ≡ 0
  no_result_left = omega (arith, counted, closed.jobs.shares (λ (j : Job). 1), sum_ones h.seat.handed, closed.results.number)

  -- the close left nothing
  all_done : IsAllDone h.seat.handed h.seat.ends workers
  all_done = record {
    jobs = record { left = closed.jobs.left; number = closed.jobs.number ∙ no_job_left; shares = closed.jobs.shares };
    results = record { left = closed.results.left; number = closed.results.number ∙ no_result_left; shares = closed.results.shares };
    accounts = closed.accounts;
    kept = kept;
  }

  -- the jobs of the picked places are those of the seat
  jobs_of_seat : AreJobs sizes past 0 (dispatched past) h.seat.handed
  jobs_of_seat =
      subst (λ (js : List Job). AreJobs sizes past 0 (dispatched past) js)
      (ap (λ (ds : List Dispatched). account.handed ++ map (job_in sizes) ds) unhanded ∙ append-nil account.handed ∙ sym handed_is)
      account.jobs_are

  -- so each was executed once
  pub executes_once : ExecutesOnce sizes past h.seat workers
  executes_once = record {
    jobs_are = jobs_of_seat;
    taken = λ w.
        let none : sum_by w closed.jobs.left ≡ 0 = ap (sum_by w) (nil_from_length closed.jobs.left (closed.jobs.number ∙ no_job_left)) in
        omega (arith, closed.jobs.shares w);
    executed = each_executed h.seat.handed h.seat.ends workers all_done;
    gained = each_gained h.seat.handed h.seat.ends workers all_done;
  }

-- a kept front accounts for the jobs of the places that it picked
pub accounts_for_jobs : (s : FrontState) → IsConsistent s → AccountsForJobs s.config.spaces (past_of s) s.jobs.hands
accounts_for_jobs s k = elim (admin_or_not s) [
  | inl admin ↦ (k.running admin).jobs.account
  | inr none ↦
      let fresh = k.fresh none in
      subst (λ (z : List Event). AccountsForJobs s.config.spaces (reverse z) s.jobs.hands) (sym fresh.log) (jobs-when-fresh s.config.spaces s.jobs fresh.jobs).account
]

-- ---- completions of commands in hand
-- a place that is in hand is that of a command whose tag is out
hand_at : (notes : Notes) (ds : List Dispatched) → All (IsTagged notes) ds → (r i : ℕ) → list_any (λ (d : Dispatched). d.place.region == r && d.place.index == i) ds ≡ true
    → tagged.IsTagged notes r i
hand_at notes [] all r i h = absurd (cc h)
hand_at notes (d ∷ ds) all r i h = by (d.place.region == r && d.place.index == i) refl h (hand_at notes ds (All-tail (IsTagged notes) d ds all) r i) where
  by : (b : Bool) → (d.place.region == r && d.place.index == i) ≡ b → (b || list_any (λ (x : Dispatched). x.place.region == r && x.place.index == i) ds) ≡ true
      → (list_any (λ (x : Dispatched). x.place.region == r && x.place.index == i) ds ≡ true → tagged.IsTagged notes r i) → tagged.IsTagged notes r i
  by true e h later =
      let parts = and_parts (d.place.region == r) (d.place.index == i) e in
      let it = All-head (IsTagged notes) d ds all in
      let place : d.place ≡ place_at r i = λ t. place_at (eqb-true d.place.region r parts.0 t) (eqb-true d.place.index i parts.1 t) in
      record { tag = d.tag; held = it.held ∙ ap Some place; out = it.out }
  by false e h later = later h

module _ (s : FrontState) (k : IsRunning s) where
  -- what its tag tells of a place
  out_place : (r i : ℕ) → tagged.IsTagged k.notes r i → IsOutPlace k.notes (place_at r i)
  out_place r i t = out_is k.stands.their k.stands.their_late k.notes s.engine.controller s.engine.slots.items k.stands.stands t.tag (place_at r i) t.held t.out

  -- a place in hand has no completion posted
  unposted_in_hand : (r i : ℕ) → is_in_hand s.jobs.hands r i ≡ true → is_posted (past_of s) r i ≡ false
  unposted_in_hand r i h =
      subst (λ (p : Past). is_posted p r i ≡ false) k.past_is (out_place r i (hand_at k.notes (in_hand s.jobs.hands) k.tags.each r i h)).unposted

  -- a place whose completion was posted was picked or aborted before
  pub posted_are_served : PostedAreServed (past_of s)
  posted_are_served = subst PostedAreServed k.past_is served where
    counted : (b : Bool) → 1 ≤ one_if b → b ≡ true
    counted true l = refl
    counted false l = absurd (omega (arith, l))

    served : PostedAreServed (logged k.notes)
    served r i posted =
        let once = k.stands.stands.holds.ready.once r i in
        let some = posts_of-some (logged k.notes) r i posted in
        counted (is_served (logged k.notes) r i) (omega (arith, once, some))

  -- ---- clear fronts
  -- a command in hand has no completion, so the log is not clear
  clear_posted : IsClear (logged k.notes) → (r i : ℕ) → tagged.IsTagged k.notes r i → ⊥
  clear_posted clear r i t =
      let out = out_place r i t in
      let there = and_parts (nat_lt i (length (fetched (logged k.notes) r))) (not (is_waiting (fate_of (logged k.notes) r i))) out.served in
      let posted = all_below (λ (j : ℕ). is_posted (logged k.notes) r j) (length (fetched (logged k.notes) r)) (clear.all_posted r) i
      (ltb-true i (length (fetched (logged k.notes) r)) there.0) in
      let unposted = out.unposted in
      cc (posted, unposted)

  clear_hand : IsClear (logged k.notes) → (ds : List Dispatched) → All (IsTagged k.notes) ds → ds ≡ []
  clear_hand clear [] all = refl
  clear_hand clear (d ∷ ds) all =
      let it = All-head (IsTagged k.notes) d ds all in
      absurd (clear_posted clear d.place.region d.place.index (record { tag = d.tag; held = it.held; out = it.out }))

  none_waits : IsClear (past_of s) → in_hand s.jobs.hands ≡ []
  none_waits clear = clear_hand (subst IsClear (sym k.past_is) clear) (in_hand s.jobs.hands) k.tags.each

-- a kept front posted none of those that it has in hand
pub none_in_hand_posted : (s : FrontState) → IsConsistent s → NoneInHandPosted (view_of s)
none_in_hand_posted s k r i h = elim (admin_or_not s) [
  | inl admin ↦ unposted_in_hand s (k.running admin) r i h
  | inr none ↦ subst (λ (z : List Event). is_posted (reverse z) r i ≡ false) (sym (k.fresh none).log) refl
]

-- in a clear front no command waits for its result
pub none_in_hand : (s : FrontState) → IsConsistent s → IsClear (past_of s) → in_hand s.jobs.hands ≡ []
none_in_hand s k clear = elim (admin_or_not s) [
  | inl admin ↦ none_waits s (k.running admin) clear
  | inr none ↦ let fresh = (k.fresh none).jobs in (λ t. fresh.none_running t ++ fresh.none_unhanded t)
]

-- the same by the view
pub jobs_seen : (s : FrontState) (v : FrontView) → view_of s ≡ v → IsConsistent s → AccountsForJobs v.rules.sizes (past_in v) v.hands
jobs_seen s v e k = subst (λ (z : FrontView). AccountsForJobs z.rules.sizes (past_in z) z.hands) e (accounts_for_jobs s k)

pub none_in_hand_seen : (s : FrontState) (v : FrontView) → view_of s ≡ v → IsConsistent s → IsClear (past_in v) → in_hand v.hands ≡ []
none_in_hand_seen s v e k = subst (λ (z : FrontView). IsClear (past_in z) → in_hand z.hands ≡ []) e (none_in_hand s k)
