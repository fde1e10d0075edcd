-- Which durations are a table of quantiles.
use Rattle.std.proofs.Common.{◌≡◌, ℕ, zero, suc, ◌+◌, ◌-◌, ◌<◌, ◌≤◌, ◌&&◌, true, false, nat_le, List, [], ◌∷◌, length, slice_index, Some, None, refl, ap, arith, le-leb}
use Rattle.std.proofs.lemmas.Bool.Decides.{nat_tests}
use Rattle.nvme_clock.specs.Tables.{FallsAt, IsTable, Rises, TellsFault}
use Rattle.nvme_clock.specs.declared.quantiles.TableFault.{TableFault}
use Rattle.nvme_clock.specs.declared.quantiles.TableFault.TheVariants.{Short, Falls}
use Rattle.nvme_model_form.specs.Services.{rises, table_of}

never_falls : (times : List ℕ) → Rises times (length times) → rises times ≡ true
never_falls [] h = refl
never_falls (a ∷ []) h = refl
never_falls (a ∷ b ∷ times) h =
    let next : (k : ℕ) → suc k + 1 ≡ suc (k + 1) = λ k. omega arith in
    let rest : Rises (b ∷ times) (length (b ∷ times)) = λ k lt. rw (next k) at (h (suc k) (omega (arith, lt))) in
    rw (le-leb a b (h 0 (omega arith)), never_falls (b ∷ times) rest) refl

falls : (times : List ℕ) (k : ℕ) → suc k < length times → slice_index times (suc k) < slice_index times k → rises times ≡ false
falls [] k within below = absurd (omega (arith, within))
falls (a ∷ []) k within below = absurd (omega (arith, within))
falls (a ∷ b ∷ times) zero within below = grind (arith, nat_tests)
falls (a ∷ b ∷ times) (suc k) within below =
    let rest : rises (b ∷ times) ≡ false = falls (b ∷ times) k (omega (arith, within)) below in
    grind (arith, nat_tests, rest)

pub is_table : (times : List ℕ) → IsTable times → table_of times ≡ Some times
is_table times table = rw (le-leb 2 (length times) table.long, never_falls times table.rises) refl

falls_at : (times : List ℕ) (at : ℕ) → FallsAt times at → rises times ≡ false
falls_at times zero h = absurd (omega (arith, h.behind_another))
falls_at times (suc k) h = let before : suc k - 1 ≡ k = omega arith in falls times k h.within (rw before at h.falls)

pub is_none : (times : List ℕ) (fault : TableFault) → TellsFault times fault → table_of times ≡ None
is_none times Short short = grind (arith, nat_tests)
is_none times (Falls at) h = let no : rises times ≡ false = falls_at times at h in grind (arith, nat_tests, no)
