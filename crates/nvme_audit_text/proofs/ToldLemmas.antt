-- The first breaches of some kind.
use Rattle.std.proofs.Common.{◌≡◌, ℕ, ◌+◌, ◌<◌, ◌≤◌, zero, suc, List, [], ◌∷◌, ◌++◌, length, take, refl, sym, ap, ◌∙◌, arith}
use Rattle.std.proofs.lemmas.List.{length-append}
use Rattle.nvme_audit_text.specs.declared.audit.Finding.{Finding}
use Rattle.nvme_audit_text.specs.declared.whole.Told.{Told}
use Rattle.nvme_audit_text.specs.WholeAudits.{AreTold}

take_none : (n : ℕ) → take {A = Finding} n [] ≡ []
take_none zero = refl
take_none (suc n) = refl

takes_one : (n : ℕ) (found : List Finding) (finding : Finding) → length (take n found) < n → take n (found ++ finding ∷ []) ≡ take n found ++ finding ∷ []
takes_one zero found finding few = absurd (omega (arith, few))
takes_one (suc n) [] finding few = ap (λ (l : List Finding). finding ∷ l) (take_none n)
takes_one (suc n) (it ∷ found) finding few = ap (λ (l : List Finding). it ∷ l) (takes_one n found finding (omega (arith, few)))

takes_none : (n : ℕ) (found : List Finding) (finding : Finding) → n ≤ length (take n found) → take n (found ++ finding ∷ []) ≡ take n found
takes_none zero found finding many = refl
takes_none (suc n) [] finding many = absurd (omega (arith, many))
takes_none (suc n) (it ∷ found) finding many = ap (λ (l : List Finding). it ∷ l) (takes_none n found finding (omega (arith, many)))

pub one_more_told : (most : ℕ) (found told more : List Finding) (finding : Finding) → told ≡ take most found → length told < most → more ≡ told ++ finding ∷ [] → more ≡ take most (found ++ finding ∷ [])
one_more_told most found told more finding is few one = one ∙ (ap (λ (l : List Finding). l ++ finding ∷ []) is ∙ sym (takes_one most found finding (rw (sym is) few)))

pub enough_told : (most : ℕ) (found told : List Finding) (finding : Finding) → told ≡ take most found → most ≤ length told → told ≡ take most (found ++ finding ∷ [])
enough_told most found told finding is many = is ∙ sym (takes_none most found finding (rw (sym is) many))

-- the first findings, and their number
pub none_told : (most : ℕ) (told : Told) → told.first.items ≡ [] → told.count ≡ 0 → AreTold most [] told
none_told most told none zero_is = record { first_are = none ∙ sym (take_none most); count_is = zero_is }

pub one_more_found : (most : ℕ) (found : List Finding) (finding : Finding) (old new : Told) → new.count ≡ old.count + 1 → (old.first.items ≡ take most found → new.first.items ≡ take most (found ++ finding ∷ [])) → AreTold most found old → AreTold most (found ++ finding ∷ []) new
one_more_found most found finding old new more first told = record {
  first_are = first told.first_are;
  count_is = omega (arith, more, told.count_is, length-append found (finding ∷ []));
}
