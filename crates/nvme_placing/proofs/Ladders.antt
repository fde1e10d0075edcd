-- The checks of a Create, with the check of its region last.
use Rattle.std.proofs.Common.{◌≡◌, ℕ, suc, ◌+◌, Bool, true, false, [], ◌∷◌, refl, ap, arith, inl, inr, ◌⊎◌}
use Rattle.nvme_entry.specs.Status.{StatusCode, code, success, invalid_field, invalid_queue_identifier, invalid_queue_size, completion_queue_invalid}
use Rattle.nvme_entry.specs.Checks.{first_failed}
use Rattle.nvme_admin.specs.Checks.{row}

-- six rows, of which the last is that of the region. A Create of a completion queue has no fourth and fifth
abbrev pub ladder : (pc id size cqid cq region : Bool) → StatusCode
ladder pc id size cqid cq region =
    first_failed (row pc invalid_field ∷ row id invalid_queue_identifier ∷ row size invalid_queue_size ∷ row cqid invalid_queue_identifier ∷ row cq completion_queue_invalid ∷ row region invalid_field ∷ [])

-- no row before that of the region fails
pub record AllPass (pc id size cqid cq : Bool) : Type 0 where
  pub pc_set : pc ≡ false
  pub id_free : id ≡ false
  pub size_fits : size ≡ false
  pub cqid_allotted : cqid ≡ false
  pub cq_open : cq ≡ false

-- the row of the region decides nothing, or it alone fails
pub rungs : (pc id size cqid cq region : Bool)
    → (ladder pc id size cqid cq region ≡ ladder pc id size cqid cq false) ⊎ (AllPass pc id size cqid cq × (region ≡ true))
rungs true id size cqid cq region = inl refl
rungs false true size cqid cq region = inl refl
rungs false false true cqid cq region = inl refl
rungs false false false true cq region = inl refl
rungs false false false false true region = inl refl
rungs false false false false false false = inl refl
rungs false false false false false true = inr (record { pc_set = refl; id_free = refl; size_fits = refl; cqid_allotted = refl; cq_open = refl }, refl)

apart : (m n : ℕ) → m ≡ n → m ≡ suc n → ⊥
apart m n same above = omega arith

two-apart : (m n : ℕ) → m ≡ n → n ≡ 2 + m → ⊥
two-apart m n same above = omega arith

other-type : (sc : ℕ) → code 1 sc ≡ invalid_field → ⊥
other-type sc h = apart 1 0 (ap (λ (s : StatusCode). s.sct) h) refl

-- with PC, no row before that of the region comes to Invalid Field
pub not-field : (id size cqid cq : Bool) → ladder false id size cqid cq false ≡ invalid_field → ⊥
not-field true size cqid cq h = other-type _ h
not-field false true cqid cq h = other-type _ h
not-field false false true cq h = other-type _ h
not-field false false false true h = other-type _ h
not-field false false false false h = two-apart 0 2 (ap (λ (s : StatusCode). s.sc) h) refl

pub all-pass : (pc id size cqid cq : Bool) → AllPass pc id size cqid cq → ladder pc id size cqid cq false ≡ success
all-pass pc id size cqid cq a = λ i. ladder (a.pc_set i) (a.id_free i) (a.size_fits i) (a.cqid_allotted i) (a.cq_open i) false
