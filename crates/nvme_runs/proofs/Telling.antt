-- How a settling that came to nothing is told.
use Rattle.std.proofs.Common.{◌≡◌, ◌⊎◌, inl, inr, refl, Err, IsErrOf}
use Rattle.nvme_front.specs.declared.settled.SettleError.{SettleError}
use Rattle.nvme_front.specs.declared.settled.SettleError.TheVariants as settling
use Rattle.nvme_runs.specs.declared.runs.RunError.{RunError}
use Rattle.nvme_runs.specs.declared.runs.RunError.TheVariants as fault

-- it is told as `GaveUp` or as `NoMemory`
pub told_so : (e : SettleError) (r : RunError) → (e ≡ settling.Strangers → ⊥) → (e ≡ settling.Outstanding → r ≡ fault.GaveUp) → (e ≡ settling.NoMemory → r ≡ fault.NoMemory)
    → (r ≡ fault.GaveUp) ⊎ (r ≡ fault.NoMemory)
told_so settling.Strangers r known outstanding memory = absurd (known refl)
told_so settling.Outstanding r known outstanding memory = inl (outstanding refl)
told_so settling.NoMemory r known outstanding memory = inr (memory refl)

-- what is told as giving up was outstanding
pub was_outstanding : {T : Type 0} (e : SettleError) (r : RunError) → (e ≡ settling.Strangers → ⊥) → (e ≡ settling.NoMemory → r ≡ fault.NoMemory) → IsErrOf {T = T} (Err r) fault.GaveUp
    → e ≡ settling.Outstanding
was_outstanding settling.Strangers r known memory told = absurd (known refl)
was_outstanding settling.Outstanding r known memory told = refl
was_outstanding settling.NoMemory r known memory told = absurd (let is = memory refl in cc)
