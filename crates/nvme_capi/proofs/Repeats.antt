-- Calls over an array: one more, and none.
use Rattle.std.proofs.Common.{◌≡◌, ◌∙◌, ℕ, ◌+◌, ◌<◌, List, [], ◌∷◌, ◌++◌, length, get_or, set, take, drop, refl, sym, ap, subst, arith}
use Rattle.std.specs.Prelude.{zip}
use Rattle.std.proofs.lemmas.Slice.Zip.{length-zip, get_or-zip}
use Rattle.std.proofs.lemmas.List.{take_more, take_more_set, drop-set-lt}
use Rattle.std.proofs.lemmas.Grind.{drop_more_same}
use Rattle.nvme_capi.specs.Batches.{Each}

-- one more, behind the others
pub each_more : {S X : Type 0} (Call : S → X → S → Type 0) (xs : List X) (x : X) (a m b : S) → Each Call xs a m → Call m x b → Each Call (xs ++ x ∷ []) a b
each_more {S} Call [] x a m b is one = (b, subst (λ (s : S). Call s x b) is one, refl)
each_more Call (y ∷ ys) x a m b (mid, first, others) one = (mid, first, each_more Call ys x mid m b others one)

-- none
pub no_call : {S X : Type 0} (Call : S → X → S → Type 0) (xs : List X) (n : ℕ) (a b : S) → n ≡ 0 → Each Call (take n xs) a b → b ≡ a
no_call Call xs n a b none each = subst (λ (k : ℕ). Each Call (take k xs) a b) none each

-- its item is read
pub each_read : {S X : Type 0} (Call : S → X → S → Type 0) (xs : List X) (i : ℕ) (x : X) (a m b : S) → i < length xs → get_or xs i x ≡ x → Each Call (take i xs) a m → Call m x b → Each Call (take (i + 1) xs) a b
each_read {X = X} Call xs i x a m b within is others one =
    subst (λ (ys : List X). Each Call ys a b) (sym (take_more xs i x within ∙ ap (λ (y : X). take i xs ++ y ∷ []) is)) (each_more Call (take i xs) x a m b others one)

-- or written
pub each_written : {S X : Type 0} (Call : S → X → S → Type 0) (xs : List X) (i : ℕ) (x : X) (a m b : S) → i < length xs → Each Call (take i xs) a m → Call m x b → Each Call (take (i + 1) (set xs i x)) a b
each_written {X = X} Call xs i x a m b within others one =
    subst (λ (ys : List X). Each Call ys a b) (sym (take_more_set xs i x within)) (each_more Call (take i xs) x a m b others one)

-- what lies behind it stays
pub rest_more : {X : Type 0} (xs ys : List X) (i : ℕ) (x : X) → drop i xs ≡ drop i ys → drop (i + 1) (set xs i x) ≡ drop (i + 1) ys
rest_more xs ys i x same = drop-set-lt (i + 1) xs i x (omega arith) ∙ drop_more_same xs ys i same

-- all stay behind none
pub all_rest : {X : Type 0} (xs ys : List X) (n : ℕ) → n ≡ 0 → drop n xs ≡ drop n ys → xs ≡ ys
all_rest {X} xs ys n none same = subst (λ (k : ℕ). drop k xs ≡ drop k ys) none same

-- the pair of two items at a place
pub pair_at : {A B : Type 0} (xs : List A) (ys : List B) (i : ℕ) (p : A × B) → i < length xs → i < length ys → p.0 ≡ get_or xs i p.0 → p.1 ≡ get_or ys i p.1 → get_or (zip xs ys) i p ≡ p
pair_at xs ys i p first second is also = get_or-zip xs ys i p first second ∙ (λ j. (sym is j, sym also j))

pub within_zip : {A B : Type 0} (xs : List A) (ys : List B) (i : ℕ) → i < length xs → i < length ys → i < length (zip xs ys)
within_zip xs ys i first second = omega (arith, length-zip xs ys)

pub length_pairs : {A B : Type 0} (xs : List A) (ys : List B) → length xs ≡ length ys → length (zip xs ys) ≡ length ys
length_pairs xs ys same = omega (arith, length-zip xs ys)
