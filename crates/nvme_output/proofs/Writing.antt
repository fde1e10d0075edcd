-- What is written in turn.
use Rattle.std.proofs.Common.{◌≡◌, ℕ, ◌-◌, List, [], ◌++◌, length, take, drop, Option, Some, None, Result, Ok, Err, IsErr, sym, ◌∙◌, ap, arith}
use Rattle.std.specs.Io.KnownBytes.{Appends}
use Rattle.std.proofs.lemmas.List.{append-nil, take-append-drop, take_rest}
use Rattle.nvme_output.specs.Written.{AppendsPrefix, Writes}
use mathlib.Core.List.{append_assoc}

-- nothing was written yet
pub appends_nothing : (a : Option (List ℕ)) → Appends a a []
appends_nothing None = tt
appends_nothing (Some xs) = sym (append-nil xs)

-- two texts written in turn are their whole
pub appends_then : (a b c : Option (List ℕ)) (s t : List ℕ) → Appends a b s → Appends b c t → Appends a c (s ++ t)
appends_then None b c s t p q = tt
appends_then (Some xs) None c s t p q = absurd p
appends_then (Some xs) (Some ys) None s t p q = absurd q
appends_then (Some xs) (Some ys) (Some zs) s t p q = q ∙ (ap (λ (v : List ℕ). v ++ t) p ∙ append_assoc xs s t)

-- a text and then a prefix of another are a prefix of both
pub prefix_then : (a b c : Option (List ℕ)) (s t : List ℕ) → Appends a b s → AppendsPrefix b c t → AppendsPrefix a c (s ++ t)
prefix_then a b c s t p (prefix, q, (rest, e)) =
    (s ++ prefix, appends_then a b c s prefix p q, (rest, append_assoc s prefix rest ∙ ap (λ (v : List ℕ). s ++ v) e))

-- a prefix of a text is one of a longer text
pub prefix_more : (a b : Option (List ℕ)) (s t : List ℕ) → AppendsPrefix a b s → AppendsPrefix a b (s ++ t)
prefix_more a b s t (prefix, q, (rest, e)) =
    (prefix, q, (rest ++ t, sym (append_assoc prefix rest t) ∙ ap (λ (v : List ℕ). v ++ t) e))

-- a text and then a prefix of what follows it are a prefix of the whole
pub prefix_at : (a b c : Option (List ℕ)) (s x rest text : List ℕ) → text ≡ s ++ (x ++ rest) → Appends a b s → AppendsPrefix b c x → AppendsPrefix a c text
prefix_at a b c s x rest text e p q = rw e (prefix_then a b c s (x ++ rest) p (prefix_more b c x rest q))

-- a prefix of a text was written, and then the writer failed
pub writes_prefix : {T E : Type 0} (a b : Option (List ℕ)) (r : Result T E) (text : List ℕ) → IsErr r → AppendsPrefix a b text → Writes a b r text
writes_prefix a b (Ok x) text failed p = search (arith, failed)
writes_prefix a b (Err x) text failed p = p

-- a text and then a prefix of what follows it were written, and then the writer failed
pub fails_at : {T E : Type 0} (a b c : Option (List ℕ)) (r : Result T E) (s x rest text : List ℕ) → IsErr r → text ≡ s ++ (x ++ rest)
    → Appends a b s → AppendsPrefix b c x → Writes a c r text
fails_at a b c r s x rest text failed e p q = writes_prefix a c r text failed (prefix_at a b c s x rest text e p q)

-- a prefix of a text that goes on was written, and then the writer failed
pub fails_first : {T E : Type 0} (a b : Option (List ℕ)) (r : Result T E) (x rest : List ℕ) → IsErr r → AppendsPrefix a b x → Writes a b r (x ++ rest)
fails_first a b r x rest failed q = writes_prefix a b r (x ++ rest) failed (prefix_more a b x rest q)

-- a text, and then what is written of another
pub writes_then : {T E : Type 0} (a b c : Option (List ℕ)) (r : Result T E) (s t : List ℕ) → Appends a b s → Writes b c r t → Writes a c r (s ++ t)
writes_then a b c (Ok x) s t p q = appends_then a b c s t p q
writes_then a b c (Err x) s t p q = prefix_then a b c s t p q

-- a write took some of the bytes that were left
pub took_some : (a b c : Option (List ℕ)) (whole rest : List ℕ) (n : ℕ)
    → ((prefix : List ℕ) × (prefix ++ rest ≡ whole) × Appends a b prefix) → Appends b c (take n rest)
    → (prefix : List ℕ) × (prefix ++ take (length rest - n) (drop n rest) ≡ whole) × Appends a c prefix
took_some a b c whole rest n (prefix, e, p) q = (
  prefix ++ take n rest,
  ap (λ (v : List ℕ). (prefix ++ take n rest) ++ v) (take_rest rest n) ∙ (append_assoc prefix (take n rest) (drop n rest)
      ∙ (ap (λ (v : List ℕ). prefix ++ v) (take-append-drop n rest) ∙ e)),
  appends_then a b c prefix (take n rest) p q,
)
