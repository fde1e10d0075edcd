-- Events that are planned, and what they cost.
use Rattle.std.proofs.Common.{◌≡◌, ◌∙◌, ℕ, ◌+◌, Bool, true, false, cond, List, [], ◌∷◌, ◌++◌, sum_by, refl, sym, ap, arith}
use Rattle.std.proofs.lemmas.List.Sums.{sum_by-cons}
use Rattle.nvme_clock.specs.Events.{comes_before, inserted}
use Rattle.nvme_clock.specs.Held.{Held, pushed}
use Rattle.nvme_simulation.specs.Plans.{Follows, Plan, planned}
use Rattle.nvme_simulation.specs.Steps.{cost, cost_of}
use Rattle.nvme_simulation.specs.declared.agenda.Event.{Event}

pub follows_self : (h : Held Event) → Follows h h
unfolding planned
follows_self h = record { plans = []; is = refl }

pub follows_same : (a b : Held Event) → b ≡ a → Follows a b
unfolding planned
follows_same a b is = record { plans = []; is = is }

pub follows_pushed : (at : ℕ) (what : Event) (a b : Held Event) → b ≡ pushed at what a → Follows a b
unfolding planned
follows_pushed at what a b is = record { plans = record { at = at; what = what } ∷ []; is = is }

planned_both : (ps qs : List Plan) (h : Held Event) → planned (ps ++ qs) h ≡ planned ps (planned qs h)
unfolding planned
planned_both [] qs h = refl
planned_both (p ∷ ps) qs h = ap (pushed p.at p.what) (planned_both ps qs h)

pub follows_then : (a b c : Held Event) → Follows a b → Follows b c → Follows a c
follows_then a b c first second = record {
  plans = second.plans ++ first.plans;
  is = second.is ∙ ap (planned second.plans) first.is ∙ sym (planned_both second.plans first.plans a);
}

-- the time is the same
pub follows_time : (a b : Held Event) → Follows a b → b.time ≡ a.time
unfolding planned
follows_time a b f = ap (λ (h : Held Event). h.time) f.is ∙ at f.plans where
  at : (ps : List Plan) → (planned ps a).time ≡ a.time
  at [] = refl
  at (p ∷ ps) = at ps

-- an element more adds its part
pub sum_inserted : {X : Type 0} (f : X → ℕ) (R : X → X → Bool) (x : X) (xs : List X) → sum_by f (inserted R x xs) ≡ f x + sum_by f xs
sum_inserted f R x [] = omega arith
sum_inserted f R x (y ∷ ys) = by (R x y) (sum_inserted f R x ys) where
  by : (b : Bool) → sum_by f (inserted R x ys) ≡ f x + sum_by f ys → sum_by f (cond b (x ∷ y ∷ ys) (y ∷ inserted R x ys)) ≡ f x + sum_by f (y ∷ ys)
  by true rest = sum_by-cons f x (y ∷ ys)
  by false rest = omega (arith, sum_by-cons f y (inserted R x ys), sum_by-cons f y ys, rest)

-- so what is planned costs
pub pushed_cost : (at : ℕ) (what : Event) (a b : Held Event) → b ≡ pushed at what a → sum_by cost_of b.events ≡ cost at what + sum_by cost_of a.events
pushed_cost at what a b is =
    ap (λ (h : Held Event). sum_by cost_of h.events) is ∙ sum_inserted cost_of comes_before (record { at = at; number = a.next; what = what }) a.events
