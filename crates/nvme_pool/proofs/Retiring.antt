-- The workers of a pool are taken apart one by one, each with the end of its ring.
use Rattle.std.proofs.Common.{◌≡◌, ℕ, ◌+◌, List, [], ◌∷◌, ◌++◌, length, map, refl, sym, ap, ◌∙◌, subst, arith, append_assoc, sum_by}
use Rattle.std.proofs.lemmas.List.{append-nil}
use Rattle.std.proofs.lemmas.List.Elements.{All-push, All-map}
use Rattle.std.proofs.lemmas.List.Sums.{sum_by-cons, sum_by_push}
use Rattle.nvme_lane.specs.View.{GetView}
use Rattle.nvme_lane.specs.Passes.{LaneView, PassView, AreAllOf, weight_of}
use Rattle.nvme_lane.specs.Shares.{IsShared}
use Rattle.nvme_pool.specs.declared.jobs.Job.{Job}
use Rattle.nvme_pool.specs.declared.jobs.Finished.{Finished}
use Rattle.nvme_pool.specs.Worker.{WorkerView}
use Rattle.nvme_pool.specs.Seat.{SeatView, Ends, rings_at}
use Rattle.nvme_pool.specs.Passes.{pass_of, passes_of}
use Rattle.nvme_pool.specs.Place.{get_place}
use Rattle.nvme_pool.specs.Pool.{IsPool, rings_of}
use Rattle.nvme_pool.specs.Closing.{GainedThenLeft, SharesResults, SharesJobs}

-- some workers and their ends remain, and `rest` results were left by the others: what is left by those that remain makes up the whole
pub record Settles (all_ends : Ends) (all_workers : List WorkerView) (ends : Ends) (workers : List WorkerView) (rest : ℕ) : Type 0 where
  pub left : List (List Finished)
  pub number : sum_by (λ (xs : List Finished). length xs) left ≡ rest
  pub closes : (more : List (List Finished)) → GainedThenLeft ends workers more → GainedThenLeft all_ends all_workers (left ++ more)

settles_one : (all_ends : Ends) (all_workers : List WorkerView) (g : GetView Finished) (ends : Ends) (w : WorkerView) (workers : List WorkerView) (rest : ℕ) (last : List Finished)
    → Settles all_ends all_workers (g ∷ ends) (w ∷ workers) rest → w.given ≡ g.got ++ last → Settles all_ends all_workers ends workers (rest + length last)
settles_one all_ends all_workers g ends w workers rest last was here = record {
  left = was.left ++ last ∷ [];
  number = omega (arith, was.number, sum_by_push (λ (xs : List Finished). length xs) was.left last);
  closes = λ more shared. rw (append_assoc was.left (last ∷ []) more) (was.closes (last ∷ more) (here, shared));
}

-- the next worker, whose end is the next
pub settles_next : (all_ends : Ends) (all_workers : List WorkerView) (from ends : Ends) (g : GetView Finished) (these workers : List WorkerView) (w : WorkerView) (rest count : ℕ) (last : List Finished)
    → from ≡ g ∷ ends → these ≡ w ∷ workers → count ≡ length last → w.given ≡ g.got ++ last
    → Settles all_ends all_workers from these rest → Settles all_ends all_workers ends workers (rest + count)
settles_next all_ends all_workers from ends g these workers w rest count last next_end next count_is here was =
    let P : Ends → Type 0 = λ gs. Settles all_ends all_workers gs these rest in
    let Q : List WorkerView → Type 0 = λ ws. Settles all_ends all_workers (g ∷ ends) ws rest in
    let R : ℕ → Type 0 = λ n. Settles all_ends all_workers ends workers (rest + n) in
    subst R (sym count_is) (settles_one all_ends all_workers g ends w workers rest last (subst Q next (subst P next_end was)) here)

pub settles_last : (all_ends : Ends) (all_workers : List WorkerView) (ends : Ends) (workers : List WorkerView) (rest : ℕ)
    → workers ≡ [] → rings_of workers ≡ rings_at ends → Settles all_ends all_workers ends workers rest → SharesResults all_ends all_workers rest
settles_last all_ends all_workers [] [] rest none rings was = record {
  left = was.left;
  number = was.number;
  shares = subst (GainedThenLeft all_ends all_workers) (append-nil was.left) (was.closes [] tt);
}
settles_last all_ends all_workers (g ∷ ends) [] rest none rings was = absurd (cc)
settles_last all_ends all_workers ends (w ∷ workers) rest none rings was = absurd (cc)

-- the rings of those that remain, after one more
pub rings_tail : (from ends : Ends) (g : GetView Finished) (these workers : List WorkerView) (w : WorkerView) → from ≡ g ∷ ends → these ≡ w ∷ workers
    → rings_of these ≡ rings_at from → rings_of workers ≡ rings_at ends
rings_tail from ends g these workers w next_end next rings =
    let cons : w.ring ∷ rings_of workers ≡ get_place g ∷ rings_at ends = ap rings_of (sym next) ∙ rings ∙ ap rings_at next_end in cc

pub sum_by_map : {X Y : Type 0} (f : X → Y) (g : Y → ℕ) (xs : List X) → sum_by g (map f xs) ≡ sum_by (λ x. g (f x)) xs
sum_by_map f g [] = refl
sum_by_map f g (x ∷ xs) = omega (arith, sum_by-cons g (f x) (map f xs), sum_by-cons (λ y. g (f y)) x xs, sum_by_map f g xs)

-- one pass alone in a list that was empty
pub one_pushed : (pushes before : List (PassView Job)) (p : PassView Job) → pushes ≡ before ++ p ∷ [] → before ≡ [] → pushes ≡ p ∷ []
one_pushed pushes before p is none = is ∙ ap (λ xs. xs ++ p ∷ []) none

-- the passes of a pool are all passes of its lane
pub pool_passes : (lane : LaneView) (seat : SeatView) (workers : List WorkerView) (p : PassView Job) (pushes pops : List (PassView Job))
    → IsPool lane seat workers → p.lane ≡ seat.lane → p.parts ≡ seat.parts → pushes ≡ p ∷ [] → pops ≡ passes_of workers → AreAllOf lane pushes pops
pool_passes lane seat workers p pushes pops pool is parts one all =
    let P : PassView Job → Type 0 = λ q. q.lane ≡ lane in
    let R : List (PassView Job) → Type 0 = λ qs. AreAllOf lane qs pops in
    let S : List (PassView Job) → Type 0 = λ qs. AreAllOf lane (p ∷ []) qs in
    subst R (sym one) (subst S (sym all) record {
      pushes_of = All-push P [] p (λ k d none. absurd (omega arith)) (is ∙ pool.seat_of);
      pops_of = All-map P pass_of workers pool.workers_of;
      some = omega arith;
      complete = omega (arith, pool.complete, parts, sum_by_map pass_of (λ (q : PassView Job). q.parts) workers, sum_by-cons (λ (q : PassView Job). q.parts) p []);
    })

pub pool_shares : (seat : SeatView) (workers : List WorkerView) (p : PassView Job) (pushes pops : List (PassView Job)) (n : ℕ)
    → p.items ≡ seat.handed → pushes ≡ p ∷ [] → pops ≡ passes_of workers → IsShared pushes pops n → SharesJobs seat.handed workers n
pool_shares seat workers p pushes pops n is one all shared = record {
  left = shared.left;
  number = shared.number;
  shares = λ h. omega (
    arith,
    shared.shares h,
    ap (sum_by h) is,
    ap (weight_of h) one,
    ap (weight_of h) all,
    sum_by_map pass_of (λ (q : PassView Job). sum_by h q.items) workers,
    sum_by-cons (λ (q : PassView Job). sum_by h q.items) p [],
  );
}
