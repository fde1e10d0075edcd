-- The settings and their CDW11.
use Rattle.std.proofs.Common.{◌≡◌, ℕ, ◌+◌, ◌-◌, ◌*◌, ◌/◌, ◌%◌, ◌^◌, ◌<◌, arith, refl, ap, sym, ◌∙◌, bit_and}
use Rattle.std.proofs.lemmas.Nat.{and_block, and_mask}
use Rattle.nvme_arbiter.specs.Settings.{FitsFields, settings_of, cdw11_of, WritesBack, ReadsBack, OnlyLevelsHaveWeights}
use Rattle.nvme_arbiter.specs.declared.settings.Class.TheVariants.{Admin, Urgent, High, Medium, Low}

-- the bits above the lowest byte, all kept
kept_high : (a : ℕ) → a < 2 ^ 24 → bit_and a (2 ^ 24 - 1) ≡ a
kept_high a h = let e = and_mask a 24 in omega (arith, e)

-- of the lowest byte, bits 02:00 are kept
masked : (a r : ℕ) → a < 2 ^ 24 → r < 2 ^ 8 → bit_and (a * 2 ^ 8 + r) ((2 ^ 24 - 1) * 2 ^ 8 + 7) ≡ a * 2 ^ 8 + r % 8
masked a r h k =
    let e = and_block 8 a (2 ^ 24 - 1) r 7 k (omega arith) in
    let low = and_mask r 3 in
    omega (arith, e, low, kept_high a h)

fields_sum : (x : ℕ) → x < 2 ^ 32 → cdw11_of (settings_of x) ≡ x / 2 ^ 8 * 2 ^ 8 + x % 2 ^ 8 % 8
fields_sum x h = omega arith

pub writes_back : WritesBack
writes_back x h =
    let e = masked (x / 2 ^ 8) (x % 2 ^ 8) (omega arith) (omega arith) in
    let split : x ≡ x / 2 ^ 8 * 2 ^ 8 + x % 2 ^ 8 = omega arith in
    fields_sum x h ∙ sym (ap (λ n. bit_and n 0xFFFF_FF07) split ∙ e)

pub reads_back : ReadsBack
reads_back s h =
    let a : (settings_of (cdw11_of s)).burst_code ≡ s.burst_code = omega arith in
    let b : (settings_of (cdw11_of s)).low ≡ s.low = omega arith in
    let c : (settings_of (cdw11_of s)).medium ≡ s.medium = omega arith in
    let d : (settings_of (cdw11_of s)).high ≡ s.high = omega arith in
    λ i. record { burst_code = a i; low = b i; medium = c i; high = d i }

pub fits : (x : ℕ) → FitsFields (settings_of x)
fits x = record { burst_code = omega arith; low = omega arith; medium = omega arith; high = omega arith }

pub only_levels : OnlyLevelsHaveWeights
only_levels s High h = absurd (h tt)
only_levels s Medium h = absurd (h tt)
only_levels s Low h = absurd (h tt)
only_levels s Admin h = refl
only_levels s Urgent h = refl
