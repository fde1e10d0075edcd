-- Each step keeps the rule of a lane.
use Rattle.std.proofs.Common.{◌≡◌, ◌≢◌, ℕ, zero, suc, ◌+◌, ◌-◌, ◌<◌, ◌≤◌, List, [], ◌∷◌, ◌++◌, set, sym, refl, ap, ◌∙◌, subst, ⊎_elim, arith, sum_by}
use Rattle.std.proofs.lemmas.List.Sums.{sum_by-cons, sum_by-append, sum_by_push}
use mathlib.Core.Option.{some, some-injective, some-ne-none}
use lib.ListN.{get_elem?}
use Rattle.crossbeam_queue.specs.Fifo.{Pushes, Pops, Forks, Merges, Learns}
use Rattle.crossbeam_queue.proofs.Lists.{at_set, at_snoc}
use Rattle.nvme_lane.specs.declared.rule.Hand.{Hand}
use Rattle.nvme_lane.specs.Hands.{hand}
use Rattle.nvme_lane.specs.Passes.{whole}
use Rattle.nvme_lane.specs.Balance.{Balanced, IdleIsEmpty}

module _ {V : Type 0} (f : V → ℕ) where
  -- the total after a change of one pass
  pub total_set : (views : List V) (port : ℕ) (v w : V) → get_elem? views port ≡ some v → sum_by f (set views port w) + f v ≡ sum_by f views + f w
  total_set [] port v w at = absurd (some-ne-none v (sym at))
  total_set (x ∷ xs) zero v w at = omega (arith, sum_by-cons f w xs, sum_by-cons f x xs, ap f (some-injective x v at))
  total_set (x ∷ xs) (suc port) v w at = omega (arith, sum_by-cons f x (set xs port w), sum_by-cons f x xs, total_set xs port v w at)

  -- one pass is within the total
  pub at_le_total : (views : List V) (port : ℕ) (v : V) → get_elem? views port ≡ some v → f v ≤ sum_by f views
  at_le_total [] port v at = absurd (some-ne-none v (sym at))
  at_le_total (x ∷ xs) zero v at = omega (arith, sum_by-cons f x xs, ap f (some-injective x v at))
  at_le_total (x ∷ xs) (suc port) v at = omega (arith, sum_by-cons f x xs, at_le_total xs port v at)

module _ {V : Type 0} (parts f : V → ℕ) where
  abbrev Empty : List V → Type 0
  Empty views = (port : ℕ) (v : V) → get_elem? views port ≡ some v → parts v ≡ 0 → f v ≡ 0

  none_total : (views : List V) → sum_by parts views ≡ 0 → Empty views → sum_by f views ≡ 0
  none_total [] none empty = refl
  none_total (x ∷ xs) none empty =
      let c = sum_by-cons parts x xs in
      let here : parts x ≡ 0 = omega arith in
      let rest : sum_by parts xs ≡ 0 = omega arith in
      omega (arith, sum_by-cons f x xs, empty zero x refl here, none_total xs rest (λ port v at. empty (suc port) v at))

  -- where one pass has every part, what the others did adds nothing
  pub sole_total : (views : List V) (port : ℕ) (v : V) → get_elem? views port ≡ some v → sum_by parts views ≡ parts v → Empty views → sum_by f views ≡ f v
  sole_total [] port v at all empty = absurd (some-ne-none v (sym at))
  sole_total (x ∷ xs) zero v at all empty =
      let same : x ≡ v = some-injective x v at in
      let rest : sum_by parts xs ≡ 0 = omega (arith, sum_by-cons parts x xs, ap parts same) in
      omega (arith, sum_by-cons f x xs, ap f same, none_total xs rest (λ port' v' at'. empty (suc port') v' at'))
  sole_total (x ∷ xs) (suc port) v at all empty =
      let c = sum_by-cons parts x xs in
      let within = at_le_total parts xs port v at in
      let here : parts x ≡ 0 = omega arith in
      let rest : sum_by parts xs ≡ parts v = omega arith in
      omega (arith, sum_by-cons f x xs, empty zero x refl here, sole_total xs port v at rest (λ port' v' at'. empty (suc port') v' at'))

module _ {T : Type 0} where
  abbrev Blank : Hand T → Type 0
  Blank v = v.parts ≡ 0 → (v.put ≡ []) × (v.taken ≡ [])

  idle_set : (views : List (Hand T)) (port : ℕ) (w : Hand T) → Blank w → IdleIsEmpty views → IdleIsEmpty (set views port w)
  idle_set views port w blank old j u e = ⊎_elim (λ (x : (j ≡ port) × (w ≡ u)). subst Blank x.1 blank) (λ (x : (j ≢ port) × (get_elem? views j ≡ some u)). old j u x.1) (at_set views port j w u e)

  pub begins : Balanced [] (hand {T = T} whole [] [] ∷ [])
  begins = record {
    parts = refl;
    shares = λ h. refl;
    idle = λ port v at none. idle_set (hand {T = T} whole [] [] ∷ []) 0 (hand whole [] []) (λ z. absurd (omega arith)) (λ j u e z. (blank_first j u e z)) port v at none;
  }
    where
      blank_first : (j : ℕ) (u : Hand T) → get_elem? (hand {T = T} whole [] [] ∷ []) j ≡ some u → Blank u
      blank_first zero u e = subst Blank (some-injective _ u e) (λ z. absurd (omega arith))
      blank_first (suc j) u e = absurd (some-ne-none u (sym e))

  pub puts : (n port : ℕ) (v : Hand T) (x : T) → 0 < v.parts → Pushes Balanced n port v x (λ w. w ≡ hand v.parts (v.put ++ x ∷ []) v.taken)
  puts n port v x part items views room b at =
      let w : Hand T = hand v.parts (v.put ++ x ∷ []) v.taken in (
        w,
        record {
          parts = omega (arith, total_set (λ (u : Hand T). u.parts) views port v w at, b.parts);
          shares = λ h. omega (
            arith,
            total_set (λ (u : Hand T). sum_by h u.put) views port v w at,
            total_set (λ (u : Hand T). sum_by h u.taken) views port v w at,
            b.shares h,
            sum_by_push h v.put x,
            sum_by_push h items x,
          );
          idle = idle_set views port w (λ none. absurd (omega arith)) b.idle;
        },
        refl,
      )

  pub takes : (port : ℕ) (v : Hand T) → 0 < v.parts → Pops Balanced port v (λ x w. w ≡ hand v.parts v.put (v.taken ++ x ∷ []))
  takes port v part x items views b at =
      let w : Hand T = hand v.parts v.put (v.taken ++ x ∷ []) in (
        w,
        record {
          parts = omega (arith, total_set (λ (u : Hand T). u.parts) views port v w at, b.parts);
          shares = λ h. omega (
            arith,
            total_set (λ (u : Hand T). sum_by h u.put) views port v w at,
            total_set (λ (u : Hand T). sum_by h u.taken) views port v w at,
            b.shares h,
            sum_by_push h v.taken x,
            sum_by-cons h x items,
          );
          idle = idle_set views port w (λ none. absurd (omega arith)) b.idle;
        },
        refl,
      )

  pub forks : (port : ℕ) (v : Hand T) → 1 < v.parts → Forks Balanced port v (hand (v.parts - 1) v.put v.taken) (hand 1 [] [])
  forks port v many items views b at =
      let l : Hand T = hand (v.parts - 1) v.put v.taken in
      let r : Hand T = hand 1 [] [] in
      let vs : List (Hand T) = set views port l in
      let old : IdleIsEmpty vs = idle_set views port l (λ none. absurd (omega arith)) b.idle in
      record {
        parts = omega (arith, total_set (λ (u : Hand T). u.parts) views port v l at, sum_by_push (λ (u : Hand T). u.parts) vs r, b.parts);
        shares = λ h. omega (
          arith,
          total_set (λ (u : Hand T). sum_by h u.put) views port v l at,
          sum_by_push (λ (u : Hand T). sum_by h u.put) vs r,
          total_set (λ (u : Hand T). sum_by h u.taken) views port v l at,
          sum_by_push (λ (u : Hand T). sum_by h u.taken) vs r,
          b.shares h,
        );
        idle = λ j u e. ⊎_elim (λ x. old j u x) (λ (is : r ≡ u). subst Blank is (λ none. absurd (omega arith))) (at_snoc vs r u j e);
      }

  pub merges : (port : ℕ) (v : Hand T) (other : ℕ) (u : Hand T) → 0 < v.parts → Merges Balanced port v other u (hand (v.parts + u.parts) (v.put ++ u.put) (v.taken ++ u.taken)) (hand 0 [] [])
  merges port v other u part items views b at two at' =
      let both : Hand T = hand (v.parts + u.parts) (v.put ++ u.put) (v.taken ++ u.taken) in
      let spent : Hand T = hand 0 [] [] in
      let vs : List (Hand T) = set views port both in
      let old : IdleIsEmpty vs = idle_set views port both (λ none. absurd (omega arith)) b.idle in
      record {
        parts = omega (arith, total_set (λ (y : Hand T). y.parts) views port v both at, total_set (λ (y : Hand T). y.parts) vs other u spent at', b.parts);
        shares = λ h. omega (
          arith,
          total_set (λ (y : Hand T). sum_by h y.put) views port v both at,
          total_set (λ (y : Hand T). sum_by h y.put) vs other u spent at',
          total_set (λ (y : Hand T). sum_by h y.taken) views port v both at,
          total_set (λ (y : Hand T). sum_by h y.taken) vs other u spent at',
          sum_by-append h v.put u.put,
          sum_by-append h v.taken u.taken,
          b.shares h,
        );
        idle = idle_set vs other spent (λ none. (refl, refl)) old;
      }

  pub learns : (port : ℕ) (v : Hand T) → v.parts ≡ whole → Learns Balanced port v (λ items. (h : T → ℕ) → sum_by h v.put ≡ sum_by h v.taken + sum_by h items)
  learns port v all items views b at h =
      let sole = b.parts ∙ sym all in
      let put = sole_total (λ (y : Hand T). y.parts) (λ (y : Hand T). sum_by h y.put) views port v at sole (λ j u e none. ap (sum_by h) (b.idle j u e none).0) in
      let taken = sole_total (λ (y : Hand T). y.parts) (λ (y : Hand T). sum_by h y.taken) views port v at sole (λ j u e none. ap (sum_by h) (b.idle j u e none).1) in
      omega (arith, b.shares h)
