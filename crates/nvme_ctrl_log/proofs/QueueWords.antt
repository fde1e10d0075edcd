-- A choice by a number.
use Rattle.std.proofs.Common.{◌≡◌, ℕ, ◌==◌, ◌⊎◌, if◌then◌else◌, Option, Some, refl, sym, ◌∙◌, inl, inr}
use Rattle.std.proofs.lemmas.Bool.{cases_eq, eq-eqb, ne_eqb}

-- ---- look-ups
-- a choice by a number, where it is that number, and where it isn't
pub at_same : {A : Type 0} (x r : ℕ) (a b : A) → x ≡ r → (if x == r then a else b) ≡ a
at_same x r a b e = rw (eq-eqb x r e) refl

pub at_other : {A : Type 0} (x r : ℕ) (a b : A) → (x ≡ r → ⊥) → (if x == r then a else b) ≡ b
at_other x r a b n = rw (ne_eqb x r n) refl

-- a choice of something, where it is that number or another
pub chosen : {A : Type 0} (x r : ℕ) (a b : Option A) (y : A) → (if x == r then a else b) ≡ Some y
    → ((x ≡ r) × (a ≡ Some y)) ⊎ ((x ≡ r → ⊥) × (b ≡ Some y))
chosen x r a b y e = elim (cases_eq x r) [
  | inl p ↦ inl (p, sym (at_same x r a b p) ∙ e)
  | inr n ↦ inr (n, sym (at_other x r a b n) ∙ e)
]
