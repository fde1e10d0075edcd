-- What isn't refused.
use Rattle.std.proofs.Common.{◌≡◌, ◌⊎◌, ◌↔◌, ℕ, ◌<◌, Bool, true, false, inl, inr, sym, ◌∙◌, arith}
use Rattle.std.specs.Prelude.{IsTrue, IsFalse}
use Rattle.nvme_capi.specs.declared.results.TheConstants.{OK, NOTHING, USED, TOO_MANY, BAD_SIZE, BAD_ARGUMENT, BAD_STATE, OTHER_SLOT}

-- a refused region isn't added
pub not_done : (r : ℕ) → (r ≡ USED) ⊎ ((r ≡ TOO_MANY) ⊎ (r ≡ BAD_SIZE)) → r ≡ OK → ⊥
not_done r (inl used) done = (let lost : 4 ≡ 0 = sym used ∙ done in omega (arith, lost))
not_done r (inr (inl many)) done = (let lost : 5 ≡ 0 = sym many ∙ done in omega (arith, lost))
not_done r (inr (inr size)) done = (let lost : 6 ≡ 0 = sym size ∙ done in omega (arith, lost))

-- neither the slots nor an argument is wrong
pub no_fault : (slots : Bool) (P : Type 0) → slots ≡ true → (P → ⊥) → IsFalse slots ⊎ P → ⊥
no_fault slots P well none (inl off) = (let lost : true ≡ false = sym well ∙ off in cc lost)
no_fault slots P well none (inr p) = none p

pub no_refusal : (r : ℕ) (ctrl slots : Bool) (P : Type 0) → (r ≡ BAD_ARGUMENT → ⊥) → slots ≡ true → (P → ⊥) → (r ≡ BAD_ARGUMENT) ↔ (IsTrue ctrl × (IsFalse slots ⊎ P))
no_refusal r ctrl slots P apart well none = (λ e. absurd (apart e), λ h. absurd (no_fault slots P well none h.1))

-- what is done, or has nothing to do, has another answer
pub not_told : (r e : ℕ) → (r ≡ OK) ⊎ (r ≡ NOTHING) → NOTHING < e → r ≡ e → ⊥
not_told r e (inl ok) above same = omega (arith, ok)
not_told r e (inr none) above same = omega (arith, none)

-- so is that of a fetch by its slot
pub not_between : (r e : ℕ) → (r ≡ OK) ⊎ ((r ≡ NOTHING) ⊎ (r ≡ OTHER_SLOT)) → NOTHING < e → e < OTHER_SLOT → r ≡ e → ⊥
not_between r e (inl ok) above below same = omega (arith, ok)
not_between r e (inr (inl none)) above below same = omega (arith, none)
not_between r e (inr (inr other)) above below same = omega (arith, other)

-- and where neither of the others is told, it is done
pub only_ok : (r : ℕ) → (r ≡ OK) ⊎ ((r ≡ NOTHING) ⊎ (r ≡ OTHER_SLOT)) → (r ≡ NOTHING → ⊥) → (r ≡ OTHER_SLOT → ⊥) → r ≡ OK
only_ok r (inl ok) some this = ok
only_ok r (inr (inl none)) some this = absurd (some none)
only_ok r (inr (inr other)) some this = absurd (this other)

pub not_ok : (r : ℕ) → r ≡ NOTHING → r ≡ OK → ⊥
not_ok r nothing ok = omega (arith, nothing, ok)

pub no_state_refused : (r : ℕ) (ctrl : Bool) → (r ≡ BAD_STATE → ⊥) → ctrl ≡ true → (r ≡ BAD_STATE) ↔ IsFalse ctrl
no_state_refused r ctrl apart well = (λ e. absurd (apart e), λ off. (let lost : true ≡ false = sym well ∙ off in cc lost))

pub no_slots_refused : (r : ℕ) (ctrl slots : Bool) → (r ≡ BAD_ARGUMENT → ⊥) → slots ≡ true → (r ≡ BAD_ARGUMENT) ↔ (IsTrue ctrl × IsFalse slots)
no_slots_refused r ctrl slots apart well = (λ e. absurd (apart e), λ h. (let lost : true ≡ false = sym well ∙ h.1 in cc lost))

-- nor are flags
pub no_flags : (r : ℕ) (ctrl : Bool) (F S M : Type 0) → ((r ≡ BAD_ARGUMENT) ↔ (IsTrue ctrl × (F ⊎ S))) → (M → ⊥) → (r ≡ BAD_ARGUMENT) ↔ (IsTrue ctrl × (F ⊎ (S ⊎ M)))
no_flags r ctrl F S M h none = (λ e. more (h.0 e), λ g. h.1 (g.0, less g.1)) where
  more : IsTrue ctrl × (F ⊎ S) → IsTrue ctrl × (F ⊎ (S ⊎ M))
  more (t, inl f) = (t, inl f)
  more (t, inr s) = (t, inr (inl s))

  less : F ⊎ (S ⊎ M) → F ⊎ S
  less (inl f) = inl f
  less (inr (inl s)) = inr s
  less (inr (inr m)) = absurd (none m)
