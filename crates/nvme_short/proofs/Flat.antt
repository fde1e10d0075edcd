-- What the elements of a list make, one after another.
use Rattle.std.proofs.Common.{◌≡◌, ℕ, ◌+◌, ◌<◌, ◌≤◌, List, [], ◌∷◌, ◌++◌, length, map, get_or, drop, replicate, sym, ap, ◌∙◌, append_assoc, append-nil}
use Rattle.std.proofs.Math.ListN.{drop_of_length-le}
use Rattle.std.proofs.lemmas.List.{drop_more, replicate_more}
use Rattle.nvme_short_form.specs.declared.place.Place.{Place}
use Rattle.nvme_short.specs.Documents.{flat}
use Rattle.nvme_short.specs.Names.{flat_from}

front : {A : Type 0} (xs : List A) (i : ℕ) (x : A) → i < length xs → x ≡ get_or xs i x → drop i xs ≡ x ∷ drop (i + 1) xs
front xs i x lt at = drop_more xs i x lt ∙ ap (λ y. y ∷ drop (i + 1) xs) (sym at)

-- one element more
pub flat_more : {A B : Type 0} (f : A → List B) (xs : List A) (i : ℕ) (x : A) (before after total : List B) → i < length xs → x ≡ get_or xs i x → after ≡ before ++ f x → before ++ flat f (drop i xs) ≡ total → after ++ flat f (drop (i + 1) xs) ≡ total
flat_more f xs i x before after total lt at step so =
    rw step (append_assoc before (f x) (flat f (drop (i + 1) xs))) ∙ ap (λ ys. before ++ flat f ys) (sym (front xs i x lt at)) ∙ so

-- after the last element
pub flat_done : {A B : Type 0} (f : A → List B) (xs : List A) (i : ℕ) (before total : List B) → length xs ≤ i → before ++ flat f (drop i xs) ≡ total → before ≡ total
flat_done f xs i before total le so = sym (append-nil before) ∙ ap (λ ys. before ++ flat f ys) (sym (drop_of_length-le xs le)) ∙ so

pub map_more : {A B : Type 0} (f : A → B) (xs : List A) (i : ℕ) (x : A) (before after total : List B) → i < length xs → x ≡ get_or xs i x → after ≡ before ++ f x ∷ [] → before ++ map f (drop i xs) ≡ total → after ++ map f (drop (i + 1) xs) ≡ total
map_more f xs i x before after total lt at step so =
    rw step (append_assoc before (f x ∷ []) (map f (drop (i + 1) xs))) ∙ ap (λ ys. before ++ map f ys) (sym (front xs i x lt at)) ∙ so

pub map_done : {A B : Type 0} (f : A → B) (xs : List A) (i : ℕ) (before total : List B) → length xs ≤ i → before ++ map f (drop i xs) ≡ total → before ≡ total
map_done f xs i before total le so = sym (append-nil before) ∙ ap (λ ys. before ++ map f ys) (sym (drop_of_length-le xs le)) ∙ so

-- the same, each element by its index
pub flat_from_more : {A B : Type 0} (f : ℕ → A → List B) (xs : List A) (i : ℕ) (x : A) (before after total : List B) → i < length xs → x ≡ get_or xs i x → after ≡ before ++ f i x → before ++ flat_from f i (drop i xs) ≡ total → after ++ flat_from f (i + 1) (drop (i + 1) xs) ≡ total
flat_from_more f xs i x before after total lt at step so =
    rw step (append_assoc before (f i x) (flat_from f (i + 1) (drop (i + 1) xs))) ∙ ap (λ ys. before ++ flat_from f i ys) (sym (front xs i x lt at)) ∙ so

pub flat_from_done : {A B : Type 0} (f : ℕ → A → List B) (xs : List A) (i : ℕ) (before total : List B) → length xs ≤ i → before ++ flat_from f i (drop i xs) ≡ total → before ≡ total
flat_from_done f xs i before total le so = sym (append-nil before) ∙ ap (λ ys. before ++ flat_from f i ys) (sym (drop_of_length-le xs le)) ∙ so

-- one place more
pub places_more : (n : ℕ) (p : Place) (before places after : List Place) → places ≡ before ++ replicate n p → after ≡ places ++ p ∷ [] → after ≡ before ++ replicate (n + 1) p
places_more n p before places after so pushed =
    rw (pushed, so) (append_assoc before (replicate n p) (p ∷ [])) ∙ ap (λ ys. before ++ ys) (replicate_more n p)
