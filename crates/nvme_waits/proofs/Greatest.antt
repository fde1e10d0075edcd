-- Greatest values, and counts, of lists that grow.
use Rattle.std.proofs.Common.{◌≡◌, ◌∙◌, ℕ, zero, suc, ◌+◌, ◌<◌, ◌≤◌, Bool, cond, max, List, [], ◌∷◌, ◌++◌, length, get_or, take, map, fold, count_by, ap, sym, arith}
use Rattle.std.proofs.lemmas.List.{map_more}
use Rattle.std.proofs.lemmas.List.Sums.{fold_more, sum_by_more}
use Rattle.nvme_waits.specs.Longest.{greatest_by}

-- one more element, read at its place
pub greatest_read : {X : Type 0} (value : X → ℕ) (xs : List X) (i : ℕ) (d : X) (m n : ℕ) → i < length xs
    → m ≡ greatest_by value (take i xs) → n ≡ value (get_or xs i d) → max m n ≡ greatest_by value (take (i + 1) xs)
greatest_read value xs i d m n l so is =
    ap (λ (v : ℕ). max v n) so ∙ (ap (λ (v : ℕ). max (greatest_by value (take i xs)) v) is
    ∙ sym (fold_more (λ (most : ℕ) x. max most (value x)) 0 xs i d l))

-- one more element
pub greatest_more : {X : Type 0} (value : X → ℕ) (xs : List X) (i : ℕ) (x : X) (m n : ℕ) → i < length xs → x ≡ get_or xs i x
    → m ≡ greatest_by value (take i xs) → n ≡ value x → max m n ≡ greatest_by value (take (i + 1) xs)
greatest_more value xs i x m n l at so is = greatest_read value xs i x m n l so (is ∙ ap value at)

-- one more that counts where it passes
pub count_more : {X : Type 0} (test : X → Bool) (xs : List X) (i : ℕ) (x : X) (m n : ℕ) → i < length xs → x ≡ get_or xs i x
    → m ≡ count_by test (take i xs) → n ≡ cond (test x) 1 0 → m + n ≡ count_by test (take (i + 1) xs)
count_more test xs i x m n l at so is =
    ap (λ (v : ℕ). v + n) so ∙ (ap (λ (v : ℕ). count_by test (take i xs) + v) (is ∙ ap (λ y. cond (test y) 1 0) at)
    ∙ sym (sum_by_more (λ y. cond (test y) 1 0) xs i x l))

-- one more value
pub values_more : {X Y : Type 0} (f : X → Y) (xs : List X) (ys next : List Y) (i : ℕ) (x : X) (y : Y) → i < length xs → x ≡ get_or xs i x
    → ys ≡ map f (take i xs) → y ≡ f x → next ≡ ys ++ y ∷ [] → next ≡ map f (take (i + 1) xs)
values_more {X} {Y} f xs ys next i x y l at so same is =
    is ∙ (ap (λ (v : List Y). v ++ y ∷ []) so ∙ (ap (λ (v : Y). map f (take i xs) ++ v ∷ []) (same ∙ ap f at) ∙ sym (map_more f xs i x l)))

-- the greatest value is no less than where it began, nor than any of the others
from_start : {X : Type 0} (value : X → ℕ) (m : ℕ) (xs : List X) → m ≤ fold (λ (most : ℕ) x. max most (value x)) m xs
from_start value m [] = omega arith
from_start value m (x ∷ xs) = omega (arith, from_start value (max m (value x)) xs)

from_each : {X : Type 0} (value : X → ℕ) (m : ℕ) (xs : List X) (i : ℕ) (d : X) → i < length xs → value (get_or xs i d) ≤ fold (λ (most : ℕ) x. max most (value x)) m xs
from_each value m [] i d l = absurd (omega (arith, l))
from_each value m (x ∷ xs) zero d l = omega (arith, from_start value (max m (value x)) xs)
from_each value m (x ∷ xs) (suc i) d l = from_each value (max m (value x)) xs i d (omega (arith, l))

pub greatest_at : {X : Type 0} (value : X → ℕ) (xs : List X) (i : ℕ) (d : X) → i < length xs → value (get_or xs i d) ≤ greatest_by value xs
greatest_at value xs i d l = from_each value 0 xs i d l
