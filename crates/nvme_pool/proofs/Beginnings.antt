-- A pool is made of a lane with one push pass, and of a worker for each pop pass.
use Rattle.std.proofs.Common.{◌≡◌, ℕ, zero, suc, ◌+◌, ◌≤◌, List, [], ◌∷◌, ◌++◌, length, map, sym, ap, ◌∙◌, subst, arith}
use Rattle.std.proofs.Math.ListN.{length-append}
use Rattle.std.proofs.lemmas.List.{map-append}
use Rattle.std.proofs.lemmas.List.Elements.{All-head, All-tail}
use Rattle.std.proofs.lemmas.List.Sums.{sum_by-cons}
use Rattle.std.specs.List.{All, range_with_len}
use Rattle.nvme_lane.specs.View.{PutView, GetView, IsPair}
use Rattle.nvme_lane.specs.Passes.{LaneView, PassView, AreAllOf, parts_of}
use Rattle.nvme_pool.specs.declared.jobs.Job.{Job}
use Rattle.nvme_pool.specs.declared.jobs.Finished.{Finished}
use Rattle.nvme_pool.specs.Limits.{max_workers}
use Rattle.nvme_pool.specs.Worker.{WorkerView}
use Rattle.nvme_pool.specs.Seat.{Ends, rings_at}
use Rattle.nvme_pool.specs.Passes.{pass_of, passes_of}
use Rattle.nvme_pool.specs.Place.{put_place, get_place}
use Rattle.nvme_pool.specs.Pool.{IsPool, HavePlaces, rings_of}
use Rattle.nvme_pool.proofs.Retiring.{sum_by_map}

-- what holds of all holds of the one that comes next
pub all_next : {X : Type 0} (P : X → Type 0) (xs : List X) (x : X) (ys : List X) → All P (xs ++ x ∷ ys) → P x
all_next P [] x ys all = All-head P x ys all
all_next P (a ∷ xs) x ys all = all_next P xs x ys (All-tail P a (xs ++ x ∷ ys) all)

pub all_before_map : {X Y : Type 0} (P : Y → Type 0) (f : X → Y) (xs : List X) → All P (map f xs) → All (λ x. P (f x)) xs
all_before_map P f [] all k d low = absurd (omega arith)
all_before_map P f (x ∷ xs) all zero d low = All-head P (f x) (map f xs) all
all_before_map P f (x ∷ xs) all (suc k) d low = all_before_map P f xs (All-tail P (f x) (map f xs) all) k d (omega arith)

-- one more worker takes by one more pass
pub passes_more : (passes : List (PassView Job)) (workers more : List WorkerView) (w : WorkerView) → passes ≡ passes_of workers → more ≡ workers ++ w ∷ [] → passes ++ pass_of w ∷ [] ≡ passes_of more
passes_more passes workers more w was is = ap (λ xs. xs ++ pass_of w ∷ []) was ∙ sym (map-append pass_of workers (w ∷ [])) ∙ ap passes_of (sym is)

-- and gives to one more ring
pub rings_more : (workers more : List WorkerView) (w : WorkerView) (ends ends' : Ends) (g : GetView Finished) → rings_of workers ≡ rings_at ends
    → more ≡ workers ++ w ∷ [] → ends' ≡ ends ++ g ∷ [] → w.ring ≡ get_place g → rings_of more ≡ rings_at ends'
rings_more workers more w ends ends' g was is is' ring =
    ap rings_of is ∙ map-append (λ (v : WorkerView). v.ring) workers (w ∷ []) ∙ ap (λ xs. xs ++ w.ring ∷ []) was ∙ ap (λ y. rings_at ends ++ y ∷ []) ring
    ∙ sym (map-append (λ (e : GetView Finished). get_place e) ends (g ∷ [])) ∙ ap rings_at (sym is')

range_more : (a n : ℕ) → range_with_len a (suc n) ≡ range_with_len a n ++ (a + n) ∷ []
range_more a zero = ap (λ k. k ∷ []) (omega arith)
range_more a (suc n) = ap (λ xs. a ∷ xs) (range_more (a + 1) n ∙ ap (λ k. range_with_len (a + 1) n ++ k ∷ []) (omega arith))

-- one more ring has the next address
pub places_more : (ends ends' : Ends) (g : GetView Finished) → HavePlaces ends → ends' ≡ ends ++ g ∷ [] → g.address ≡ length ends → HavePlaces ends'
places_more ends ends' g was is at =
    let grown : length ends' ≡ suc (length ends) = omega (arith, ap length is, length-append ends (g ∷ [])) in
    ap (map (λ (e : GetView Finished). e.address)) is ∙ map-append (λ (e : GetView Finished). e.address) ends (g ∷ []) ∙ ap (λ xs. xs ++ g.address ∷ []) was
    ∙ ap (λ k. range_with_len 0 (length ends) ++ k ∷ []) (omega (arith, at)) ∙ sym (range_more 0 (length ends)) ∙ ap (range_with_len 0) (sym grown)

pub pair_place : (p : PutView Finished) (g : GetView Finished) → IsPair p g → put_place p ≡ get_place g
pair_place p g pair = cc

-- a list of one that ends with p is p alone
only : (pushes rest : List (PassView Job)) (p : PassView Job) → pushes ≡ rest ++ p ∷ [] → length pushes ≡ 1 → pushes ≡ p ∷ []
only pushes [] p is one = is
only pushes (q ∷ rest) p is one = absurd (omega (arith, ap length is, length-append rest (p ∷ [])))

pub pool_made : (lane : LaneView) (pushes rest : List (PassView Job)) (p : PassView Job) (pops : List (PassView Job)) (workers : List WorkerView) (ends : Ends)
    → AreAllOf lane pushes pops → pushes ≡ rest ++ p ∷ [] → length pushes ≡ 1 → pops ≡ passes_of workers → length workers ≤ max_workers → rings_of workers ≡ rings_at ends
    → IsPool lane record { lane = p.lane; parts = p.parts; handed = p.items; ends = ends } workers
pool_made lane pushes rest p pops workers ends all is one of few rings =
    let P : PassView Job → Type 0 = λ q. q.lane ≡ lane in
    let alone : pushes ≡ p ∷ [] = only pushes rest p is one in
    record {
      seat_of = All-head P p [] (subst (All P) alone all.pushes_of);
      workers_of = all_before_map P pass_of workers (subst (All P) of all.pops_of);
      complete = omega (
        arith,
        all.complete,
        ap parts_of alone,
        ap parts_of of,
        sum_by-cons (λ (q : PassView Job). q.parts) p [],
        sum_by_map pass_of (λ (q : PassView Job). q.parts) workers,
      );
      rings = rings;
      few = few;
    }
