-- A list whose first elements are changed by a function, in place.
use Rattle.std.proofs.Common.{◌≡◌, ℕ, ◌+◌, ◌<◌, ◌≤◌, zero, suc, List, [], ◌∷◌, length, map, set, get_or, add-one, refl, sym, ap, ◌∙◌, arith}

abbrev pub first_mapped : {A : Type 0} → (A → A) → ℕ → List A → List A
first_mapped f zero xs = xs
first_mapped f (suc n) [] = []
first_mapped f (suc n) (x ∷ xs) = f x ∷ first_mapped f n xs

pub all_mapped : {A : Type 0} (f : A → A) (n : ℕ) (xs : List A) → length xs ≤ n → first_mapped f n xs ≡ map f xs
all_mapped f zero [] all = refl
all_mapped f zero (x ∷ xs) all = absurd (omega (arith, all))
all_mapped f (suc n) [] all = refl
all_mapped f (suc n) (x ∷ xs) all = ap (λ l. f x ∷ l) (all_mapped f n xs (omega (arith, all)))

set_mapped : {A : Type 0} (f : A → A) (n : ℕ) (xs : List A) (d : A) → n < length xs → set (first_mapped f n xs) n (f (get_or (first_mapped f n xs) n d)) ≡ first_mapped f (suc n) xs
set_mapped f zero [] d within = absurd (omega (arith, within))
set_mapped f zero (x ∷ xs) d within = refl
set_mapped f (suc n) [] d within = absurd (omega (arith, within))
set_mapped f (suc n) (x ∷ xs) d within = ap (λ l. f x ∷ l) (set_mapped f n xs d (omega (arith, within)))

pub one_more_mapped : {A : Type 0} (f : A → A) (n : ℕ) (xs now : List A) (d y : A) → now ≡ first_mapped f n xs → n < length xs → y ≡ f (get_or now n d) → set now n y ≡ first_mapped f (n + 1) xs
one_more_mapped f n xs now d y is within changed =
    ap (λ z. set now n z) changed ∙ (ap (λ l. set l n (f (get_or l n d))) is ∙ (set_mapped f n xs d within ∙ ap (λ k. first_mapped f k xs) (sym (add-one n))))
