-- Texts of elements with their places.
use Rattle.std.proofs.Common.{◌≡◌, ℕ, ◌+◌, ◌<◌, List, [], ◌∷◌, ◌++◌, length, take, drop, get_or, Option, Result, IsErr, sym, ◌∙◌, ap, arith}
use Rattle.std.specs.Io.KnownBytes.{Appends}
use Rattle.std.proofs.lemmas.List.{append-nil, drop_more, length-take-le, take-append-drop, take_more}
use Rattle.nvme_output.specs.Written.{AppendsPrefix, Writes}
use Rattle.nvme_output.proofs.Writing.{appends_then, fails_at}
use Rattle.nvme_numbers.specs.Sheets.{placed}
use mathlib.Core.List.{append_assoc}

-- the texts of a list that goes on
pub placed_append : {A : Type 0} (text : ℕ → A → List ℕ) (n m : ℕ) (xs ys : List A) → m ≡ n + length xs
    → placed text n (xs ++ ys) ≡ placed text n xs ++ placed text m ys
placed_append text n m [] ys e = ap (λ (k : ℕ). placed text k ys) (sym (let f : m ≡ n = omega arith in f))
placed_append text n m (x ∷ xs) ys e =
    ap (λ v. text n x ++ v) (placed_append text (n + 1) m xs ys (omega arith))
    ∙ sym (append_assoc (text n x) (placed text (n + 1) xs) (placed text m ys))

-- the texts up to the next place
pub placed_more : {A : Type 0} (text : ℕ → A → List ℕ) (xs : List A) (i : ℕ) (d : A) → i < length xs
    → placed text 0 (take (i + 1) xs) ≡ placed text 0 (take i xs) ++ text i (get_or xs i d)
placed_more text xs i d l =
    let short : length (take i xs) ≡ i = length-take-le i xs (omega arith) in
    ap (λ v. placed text 0 v) (take_more xs i d l)
    ∙ (placed_append text 0 i (take i xs) (get_or xs i d ∷ []) (omega arith)
    ∙ ap (λ v. placed text 0 (take i xs) ++ v) (append-nil (text i (get_or xs i d))))

-- the texts up to a place, that of the element there, and the others' are the whole
pub placed_at : {A : Type 0} (text : ℕ → A → List ℕ) (xs : List A) (i : ℕ) (d : A) → i < length xs
    → placed text 0 xs ≡ placed text 0 (take i xs) ++ (text i (get_or xs i d) ++ placed text (i + 1) (drop (i + 1) xs))
placed_at text xs i d l =
    let short : length (take i xs) ≡ i = length-take-le i xs (omega arith) in
    ap (λ v. placed text 0 v) (sym (take-append-drop i xs) ∙ ap (λ v. take i xs ++ v) (drop_more xs i d l))
    ∙ placed_append text 0 i (take i xs) (get_or xs i d ∷ drop (i + 1) xs) (omega arith)

-- the text of one more element was written
pub placed_then : {A : Type 0} (text : ℕ → A → List ℕ) (xs : List A) (i : ℕ) (d : A) (a b c : Option (List ℕ)) → i < length xs
    → Appends a b (placed text 0 (take i xs)) → Appends b c (text i (get_or xs i d)) → Appends a c (placed text 0 (take (i + 1) xs))
placed_then text xs i d a b c l p q = rw (placed_more text xs i d l) (appends_then a b c (placed text 0 (take i xs)) (text i (get_or xs i d)) p q)

-- an element's text failed to be written after those before it
pub placed_fail : {A T E : Type 0} (text : ℕ → A → List ℕ) (xs : List A) (i : ℕ) (d : A) (a b c : Option (List ℕ)) (r : Result T E) → IsErr r → i < length xs
    → Appends a b (placed text 0 (take i xs)) → AppendsPrefix b c (text i (get_or xs i d)) → Writes a c r (placed text 0 xs)
placed_fail text xs i d a b c r failed l p q =
    fails_at a b c r (placed text 0 (take i xs)) (text i (get_or xs i d)) (placed text (i + 1) (drop (i + 1) xs)) (placed text 0 xs) failed (placed_at text xs i d l) p q
