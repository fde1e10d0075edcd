-- What loops write.
use Rattle.std.proofs.Common.{◌≡◌, ℕ, ◌+◌, ◌<◌, List, [], ◌∷◌, ◌++◌, length, take, drop, get_or, Option, Result, IsErr, sym, ◌∙◌, ap, subst, inl, inr, arith, suc, zero}
use Rattle.std.specs.Io.KnownBytes.{Appends}
use Rattle.std.specs.List.{flat_map}
use Rattle.std.proofs.lemmas.Bool.Decides.{eqb_tells}
use Rattle.std.proofs.lemmas.List.{append-nil, take-append-drop, take_more, drop_more, length-take-le}
use Rattle.std.proofs.lemmas.List.Concat.{flat_map-append}
use Rattle.nvme_log.specs.Rules.{upto}
use Rattle.nvme_report.specs.Report.{numbered}
use Rattle.nvme_output.specs.Written.{AppendsPrefix, Writes}
use Rattle.nvme_output.proofs.Writing.{appends_then, fails_at}
use mathlib.Core.List.{append_assoc}

-- numbered texts of two lists
numbered_append : {A : Type 0} (f : ℕ → A → List ℕ) (n : ℕ) (xs ys : List A) → numbered f n (xs ++ ys) ≡ numbered f n xs ++ numbered f (n + length xs) ys
numbered_append f n [] ys = ap (λ (v : ℕ). numbered f v ys) (omega arith)
numbered_append f n (x ∷ xs) ys =
    ap (λ (v : List ℕ). f n x ++ v) (numbered_append f (n + 1) xs ys ∙ ap (λ (v : ℕ). numbered f (n + 1) xs ++ numbered f v ys) (omega arith))
    ∙ sym (append_assoc (f n x) (numbered f (n + 1) xs) (numbered f (n + length (x ∷ xs)) ys))

-- the numbered texts of the items up to one, that of it, and the others' are the whole
pub numbered_at : {A : Type 0} (f : ℕ → A → List ℕ) (xs : List A) (i : ℕ) (d : A) → i < length xs
    → numbered f 0 xs ≡ numbered f 0 (take i xs) ++ (f i (get_or xs i d) ++ numbered f (i + 1) (drop (i + 1) xs))
numbered_at f xs i d l =
    ap (λ v. numbered f 0 v) (sym (take-append-drop i xs)) ∙ (numbered_append f 0 (take i xs) (drop i xs)
    ∙ (ap (λ (v : ℕ). numbered f 0 (take i xs) ++ numbered f v (drop i xs)) (omega (arith, length-take-le i xs (omega arith)))
    ∙ ap (λ v. numbered f 0 (take i xs) ++ numbered f i v) (drop_more xs i d l)))

-- the numbered text of one item more
pub numbered_next : {A : Type 0} (f : ℕ → A → List ℕ) (xs : List A) (i : ℕ) (d : A) → i < length xs
    → numbered f 0 (take (i + 1) xs) ≡ numbered f 0 (take i xs) ++ f i (get_or xs i d)
numbered_next f xs i d l =
    ap (λ v. numbered f 0 v) (take_more xs i d l) ∙ (numbered_append f 0 (take i xs) (get_or xs i d ∷ [])
    ∙ (ap (λ (v : ℕ). numbered f 0 (take i xs) ++ (f v (get_or xs i d) ++ [])) (omega (arith, length-take-le i xs (omega arith)))
    ∙ ap (λ (v : List ℕ). numbered f 0 (take i xs) ++ v) (append-nil (f i (get_or xs i d)))))

-- the text of one number more
pub upto_next : (f : ℕ → List ℕ) (i : ℕ) → flat_map f (upto (i + 1)) ≡ flat_map f (upto i) ++ f i
upto_next f i =
    let e : i + 1 ≡ suc i = omega arith in
    rw e (flat_map-append f (upto i) (i ∷ []) ∙ ap (λ (v : List ℕ). flat_map f (upto i) ++ v) (append-nil (f i)))

-- the texts of the numbers up to one, that of it, and the others' are the whole
pub upto_at : (f : ℕ → List ℕ) (n i : ℕ) → i < n → (rest : List ℕ) × (flat_map f (upto n) ≡ flat_map f (upto i) ++ (f i ++ rest))
upto_at f zero i l = absurd (omega arith)
upto_at f (suc n) i l =
    elim (eqb_tells n i) [
      | inl (t, e) ↦ ([], subst (λ (z : ℕ). flat_map f (upto (suc n)) ≡ flat_map f (upto z) ++ (f z ++ [])) e (flat_map-append f (upto n) (n ∷ [])))
      | inr (t, other) ↦
          let below = upto_at f n i (omega (arith, other)) in (
            below.0 ++ (f n ++ []),
            flat_map-append f (upto n) (n ∷ []) ∙ (ap (λ (v : List ℕ). v ++ (f n ++ [])) below.1
                ∙ (append_assoc (flat_map f (upto i)) (f i ++ below.0) (f n ++ []) ∙ ap (λ (v : List ℕ). flat_map f (upto i) ++ v) (append_assoc (f i) below.0 (f n ++ [])))),
          )
    ]

-- a numbered text failed to be written after those before it
pub numbered_fail : {A T E : Type 0} (f : ℕ → A → List ℕ) (xs : List A) (i : ℕ) (x : A) (a b c : Option (List ℕ)) (r : Result T E) → IsErr r → i < length xs
    → x ≡ get_or xs i x → Appends a b (numbered f 0 (take i xs)) → AppendsPrefix b c (f i x) → Writes a c r (numbered f 0 xs)
numbered_fail f xs i x a b c r failed l e p q =
    fails_at a b c r (numbered f 0 (take i xs)) (f i (get_or xs i x)) (numbered f (i + 1) (drop (i + 1) xs)) (numbered f 0 xs) failed (numbered_at f xs i x l) p
    (subst (λ z. AppendsPrefix b c (f i z)) e q)

-- a numbered text was written after those before it
pub numbered_written : {A : Type 0} (f : ℕ → A → List ℕ) (xs : List A) (i : ℕ) (x : A) (a b c : Option (List ℕ)) → i < length xs
    → x ≡ get_or xs i x → Appends a b (numbered f 0 (take i xs)) → Appends b c (f i x) → Appends a c (numbered f 0 (take (i + 1) xs))
numbered_written f xs i x a b c l e p q =
    rw (numbered_next f xs i x l) (appends_then a b c (numbered f 0 (take i xs)) (f i (get_or xs i x)) p (subst (λ z. Appends b c (f i z)) e q))

-- a number's text failed to be written after those before it
pub upto_fail : {T E : Type 0} (f : ℕ → List ℕ) (n i : ℕ) (a b c : Option (List ℕ)) (r : Result T E) → IsErr r → i < n
    → Appends a b (flat_map f (upto i)) → AppendsPrefix b c (f i) → Writes a c r (flat_map f (upto n))
upto_fail f n i a b c r failed l p q =
    let at = upto_at f n i l in
    fails_at a b c r (flat_map f (upto i)) (f i) at.0 (flat_map f (upto n)) failed at.1 p q

-- a number's text was written after those before it
pub upto_written : (f : ℕ → List ℕ) (i : ℕ) (a b c : Option (List ℕ)) → Appends a b (flat_map f (upto i)) → Appends b c (f i) → Appends a c (flat_map f (upto (i + 1)))
upto_written f i a b c p q = rw (upto_next f i) (appends_then a b c (flat_map f (upto i)) (f i) p q)
