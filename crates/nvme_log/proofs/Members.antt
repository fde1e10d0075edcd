-- What stands in a list, and where two cuts of one list lie.
use Rattle.std.proofs.Common.{◌≡◌, ℕ, zero, suc, ◌<◌, ◌==◌, Bool, true, false, if◌then◌else◌, List, [], ◌∷◌, ◌++◌, take, drop, Some, refl, sym, ap, ◌∙◌, subst, arith, ◌⊎◌, inl, inr}
use Rattle.std.specs.Prelude.{filter, slice_get, All}
use Rattle.std.specs.List.{AllPairs}
use Rattle.std.proofs.lemmas.Bool.{eqb-true, eqb-false}
use Rattle.std.proofs.lemmas.List.Elements.{All-head, All-tail, All-nil, All-cons}
use mathlib.Core.List.{IsPrefix}
use Rattle.nvme_log.specs.Rules.{upto}

-- a list has an element
abbrev pub IsIn : {T : Type 0} → T → List T → Type 0
IsIn x [] = ⊥
IsIn x (y ∷ ys) = (y ≡ x) ⊎ IsIn x ys

-- what is true of each element is true of one
pub in-all : {T : Type 0} (P : T → Type 0) (x : T) (xs : List T) → All P xs → IsIn x xs → P x
in-all P x [] a h = absurd h
in-all P x (y ∷ ys) a (inl e) = subst P e (All-head P y ys a)
in-all P x (y ∷ ys) a (inr h) = in-all P x ys (All-tail P y ys a) h

-- and what is true of any element is true of each
pub all-in : {T : Type 0} (P : T → Type 0) (xs : List T) → ((x : T) → IsIn x xs → P x) → All P xs
all-in P [] h = All-nil P
all-in P (x ∷ xs) h = All-cons P x xs (h x (inl refl)) (all-in P xs (λ y is. h y (inr is)))

-- an element of the second of two lists
pub in-append_right : {T : Type 0} (x : T) (xs ys : List T) → IsIn x ys → IsIn x (xs ++ ys)
in-append_right x [] ys h = h
in-append_right x (y ∷ xs) ys h = inr (in-append_right x xs ys h)

-- and of the first
pub in-append_left : {T : Type 0} (x : T) (xs ys : List T) → IsIn x xs → IsIn x (xs ++ ys)
in-append_left x [] ys h = absurd h
in-append_left x (y ∷ xs) ys (inl e) = inl e
in-append_left x (y ∷ xs) ys (inr h) = inr (in-append_left x xs ys h)

-- the one element of a list
pub only : {T : Type 0} (x y : T) → IsIn x (y ∷ []) → y ≡ x
only x y (inl e) = e
only x y (inr h) = absurd h

-- an element that a longer list begins with
in-middle : {T : Type 0} (xs rest : List T) (x : T) → IsIn x ((xs ++ x ∷ []) ++ rest)
in-middle [] rest x = inl refl
in-middle (y ∷ xs) rest x = inr (in-middle xs rest x)

pub in-prefix : {T : Type 0} (xs ys : List T) (x : T) → IsPrefix (xs ++ x ∷ []) ys → IsIn x ys
in-prefix xs ys x h = subst (IsIn x) h.1 (in-middle xs h.0 x)

-- the first elements, and the others
pub in-take : {T : Type 0} (x : T) (n : ℕ) (xs : List T) → IsIn x (take n xs) → IsIn x xs
in-take x zero xs h = absurd h
in-take x (suc n) [] h = absurd h
in-take x (suc n) (y ∷ xs) (inl e) = inl e
in-take x (suc n) (y ∷ xs) (inr h) = inr (in-take x n xs h)

pub in-drop : {T : Type 0} (x : T) (n : ℕ) (xs : List T) → IsIn x (drop n xs) → IsIn x xs
in-drop x zero xs h = h
in-drop x (suc n) [] h = absurd h
in-drop x (suc n) (y ∷ xs) h = inr (in-drop x n xs h)

-- what a filter keeps
pub in-filter : {T : Type 0} (t : T → Bool) (x : T) (xs : List T) → IsIn x (filter t xs) → IsIn x xs × (t x ≡ true)
in-filter t x [] h = absurd h
in-filter t x (y ∷ xs) h = by (t y) refl h (λ k. in-filter t x xs k) where
  by : (b : Bool) → t y ≡ b → IsIn x (if b then y ∷ filter t xs else filter t xs) → (IsIn x (filter t xs) → IsIn x xs × (t x ≡ true)) → IsIn x (y ∷ xs) × (t x ≡ true)
  by true e (inl same) f = (inl same, subst (λ z. t z ≡ true) same e)
  by true e (inr k) f = (inr (f k).0, (f k).1)
  by false e k f = (inr (f k).0, (f k).1)

pub filter-in : {T : Type 0} (t : T → Bool) (x : T) (xs : List T) → IsIn x xs → t x ≡ true → IsIn x (filter t xs)
filter-in t x [] h p = absurd h
filter-in t x (y ∷ xs) (inl e) p =
    let here : t y ≡ true = ap t e ∙ p in
    subst (λ (b : Bool). IsIn x (if b then y ∷ filter t xs else filter t xs)) (sym here) (inl e)
filter-in t x (y ∷ xs) (inr h) p = by (t y) (filter-in t x xs h p) where
  by : (b : Bool) → IsIn x (filter t xs) → IsIn x (if b then y ∷ filter t xs else filter t xs)
  by true k = inr k
  by false k = k

-- the first element
pub in-first : {T : Type 0} (x : T) (xs : List T) → slice_get xs 0 ≡ Some x → IsIn x xs
in-first x [] h = cc h
in-first x (y ∷ xs) h = inl (cc h)

pub in-take_first : {T : Type 0} (x : T) (xs : List T) (n : ℕ) → slice_get xs 0 ≡ Some x → 0 < n → IsIn x (take n xs)
in-take_first x xs zero h some = absurd (omega (arith, some))
in-take_first x [] (suc n) h some = cc h
in-take_first x (y ∷ xs) (suc n) h some = inl (cc h)

-- the numbers below n
pub in-upto : (i n : ℕ) → i < n → IsIn i (upto n)
in-upto i zero h = absurd (omega (arith, h))
in-upto i (suc n) h = by (n == i) refl (λ lt. in-upto i n lt) where
  by : (b : Bool) → (n == i) ≡ b → (i < n → IsIn i (upto n)) → IsIn i (upto (suc n))
  by true e f = in-append_right i (upto n) (n ∷ []) (inl (eqb-true n i e))
  by false e f =
      let other : n ≡ i → ⊥ = eqb-false n i e in
      in-append_left i (upto n) (n ∷ []) (f (omega (arith, h, other)))

-- ---- ascending numbers
abbrev pub Ascending : List ℕ → Type 0
Ascending [] = Unit {0}
Ascending (x ∷ xs) = ((y : ℕ) → IsIn y xs → x < y) × Ascending xs

pub ascending : (xs : List ℕ) → AllPairs (λ (i j : ℕ). i < j) xs → Ascending xs
ascending [] h = tt
ascending (x ∷ xs) h = (
  (λ y is. in-all (λ (z : ℕ). x < z) y xs (λ k d within. h 0 (suc k) d (omega arith) (omega (arith, within))) is),
  ascending xs (λ i j d lt within. h (suc i) (suc j) d (omega (arith, lt)) (omega (arith, within))),
)

-- none stands among the first and among the others
pub apart : (x n : ℕ) (xs : List ℕ) → Ascending xs → IsIn x (take n xs) → IsIn x (drop n xs) → ⊥
apart x zero xs a h k = h
apart x (suc n) [] a h k = h
apart x (suc n) (y ∷ xs) a (inl e) k = let lt : y < x = a.0 x (in-drop x n xs k) in omega (arith, lt, e)
apart x (suc n) (y ∷ xs) a (inr h) k = apart x n xs a.1 h k

-- the first that passes a test
pub record IsFirst (t : ℕ → Bool) (xs : List ℕ) (i : ℕ) : Type 0 where
  pub is_in : IsIn i xs
  pub passes : t i ≡ true
  pub first : (k : ℕ) → IsIn k xs → k < i → t k ≡ false

pub first-is : (t : ℕ → Bool) (xs : List ℕ) (i : ℕ) → Ascending xs → IsIn i (take 1 (filter t xs)) → IsFirst t xs i
first-is t [] i a h = absurd h
first-is t (x ∷ xs) i a h = by (t x) refl h (λ k. first-is t xs i a.1 k) where
  none : x ≡ i → (k : ℕ) → IsIn k (x ∷ xs) → k < i → t k ≡ false
  none same k (inl f) lt = absurd (omega (arith, same, f, lt))
  none same k (inr f) lt = let above : x < k = a.0 k f in absurd (omega (arith, same, above, lt))

  later : t x ≡ false → IsFirst t xs i → (k : ℕ) → IsIn k (x ∷ xs) → k < i → t k ≡ false
  later e it k (inl f) lt = ap t (sym f) ∙ e
  later e it k (inr f) lt = it.first k f lt

  by : (b : Bool) → t x ≡ b → IsIn i (take 1 (if b then x ∷ filter t xs else filter t xs)) → (IsIn i (take 1 (filter t xs)) → IsFirst t xs i) → IsFirst t (x ∷ xs) i
  by true e (inl same) f = record { is_in = inl same; passes = ap t (sym same) ∙ e; first = none same }
  by true e (inr k) f = absurd k
  by false e k f = record { is_in = inr (f k).is_in; passes = (f k).passes; first = later e (f k) }

pub is-first : (t : ℕ → Bool) (xs : List ℕ) (i : ℕ) → Ascending xs → IsFirst t xs i → take 1 (filter t xs) ≡ i ∷ []
is-first t [] i a h = absurd h.is_in
is-first t (x ∷ xs) i a h = by (t x) refl h.is_in (λ k. is-first t xs i a.1 k) where
  by : (b : Bool) → t x ≡ b → IsIn i (x ∷ xs) → (IsFirst t xs i → take 1 (filter t xs) ≡ i ∷ []) → take 1 (if b then x ∷ filter t xs else filter t xs) ≡ i ∷ []
  by true e (inl same) f = ap (λ (z : ℕ). z ∷ []) same
  by true e (inr k) f = let above : x < i = a.0 i k in absurd (let no : t x ≡ false = h.first x (inl refl) above in cc)
  by false e (inl same) f = absurd (let yes : t x ≡ true = ap t same ∙ h.passes in cc)
  by false e (inr k) f = f (record { is_in = k; passes = h.passes; first = λ j g lt. h.first j (inr g) lt })

-- ---- cuts
-- two cuts of one list: the first lies later in it, they are one, or the second does
pub record LiesLater {T : Type 0} (xs us : List T) (b : T) (vs ys : List T) (a : T) : Type 0 where
  pub between : List T
  pub left : xs ≡ us ++ b ∷ between
  pub right : vs ≡ between ++ a ∷ ys

pub cuts : {T : Type 0} (xs ys us vs : List T) (a b : T) → xs ++ a ∷ ys ≡ us ++ b ∷ vs
    → LiesLater xs us b vs ys a ⊎ ((a ≡ b) ⊎ LiesLater us xs a ys vs b)
cuts [] ys [] vs a b h = inr (inl (cc h))
cuts [] ys (u ∷ us) vs a b h = inr (inr (record { between = us; left = ap (λ z. z ∷ us) (cc h); right = cc h }))
cuts (x ∷ xs) ys [] vs a b h = inl (record { between = xs; left = ap (λ z. z ∷ xs) (cc h); right = cc h })
cuts (x ∷ xs) ys (u ∷ us) vs a b h =
    let same : x ≡ u = cc h in
    elim (cuts xs ys us vs a b (cc h)) [
      | inl it ↦ inl (record { between = it.between; left = (λ i. same i ∷ it.left i); right = it.right })
      | inr (inl e) ↦ inr (inl e)
      | inr (inr it) ↦ inr (inr (record { between = it.between; left = (λ i. sym same i ∷ it.left i); right = it.right }))
    ]
