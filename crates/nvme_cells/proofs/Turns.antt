-- Texts that are written in turn.
use Rattle.std.proofs.Common.{◌≡◌, ℕ, ◌+◌, ◌-◌, ◌<◌, List, [], ◌∷◌, ◌++◌, map, replicate, Option, Result, IsErr, sym, ◌∙◌, ap, refl, arith}
use Rattle.std.specs.Io.KnownBytes.{Appends}
use Rattle.std.specs.List.{flat_map}
use Rattle.std.proofs.lemmas.List.{replicate-append-replicate}
use Rattle.std.proofs.lemmas.List.Concat.{flat_map-append}
use Rattle.nvme_output.specs.Written.{AppendsPrefix, Writes}
use Rattle.nvme_output.proofs.Writing.{fails_at}

-- of a byte that is written so many times one failed to be written
pub filled_fails : {T E : Type 0} (n i byte : ℕ) (a b c : Option (List ℕ)) (r : Result T E) → IsErr r → i < n
    → Appends a b (replicate i byte) → AppendsPrefix b c (byte ∷ []) → Writes a c r (replicate n byte)
filled_fails n i byte a b c r failed l p q =
    let e : i + (1 + (n - i - 1)) ≡ n = omega arith in
    fails_at a b c r (replicate i byte) (byte ∷ []) (replicate (n - i - 1) byte) (replicate n byte) failed
    (sym (ap (λ (k : ℕ). replicate k byte) e) ∙ (sym (replicate-append-replicate i (1 + (n - i - 1)) byte)
    ∙ ap (λ v. replicate i byte ++ v) (sym (replicate-append-replicate 1 (n - i - 1) byte)))) p q

-- the texts of what a map gives
pub flat_map-map : {A B C : Type 0} (f : B → List C) (h : A → B) (xs : List A) → flat_map f (map h xs) ≡ flat_map (λ x. f (h x)) xs
flat_map-map f h [] = refl
flat_map-map f h (x ∷ xs) = ap (λ v. f (h x) ++ v) (flat_map-map f h xs)

-- the texts of what parts give
pub flat_map_parts : {A B C P : Type 0} (f : B → List C) (h : A → B) (read : P → List A) (parts : List P)
    → flat_map f (flat_map (λ part. map h (read part)) parts) ≡ flat_map (λ part. flat_map (λ x. f (h x)) (read part)) parts
flat_map_parts f h read [] = refl
flat_map_parts f h read (part ∷ parts) =
    flat_map-append f (map h (read part)) (flat_map (λ part. map h (read part)) parts)
    ∙ (ap (λ v. v ++ flat_map f (flat_map (λ part. map h (read part)) parts)) (flat_map-map f h (read part))
    ∙ ap (λ v. flat_map (λ x. f (h x)) (read part) ++ v) (flat_map_parts f h read parts))
