-- All faults of a file begin with the one at which reading ends.
use Rattle.std.proofs.Common.{◌≡◌, Bool, true, false, List, [], ◌∷◌, Some, Result, Ok, Err, if◌then◌else◌, refl}
use Rattle.std.specs.Result.{result_err}
use Rattle.toml.specs.Data.{Members}
use Rattle.nvme_short_form.specs.declared.error.ShortError.{ShortError}
use Rattle.nvme_short_form.specs.declared.flaw.Flaw.{Flaw}
use Rattle.nvme_short_form.specs.Flaws.{all_flaws, alone, behind, first_of, is_of_count, leading, led_by, table_flaws}

leads : (e : ShortError) (flaws : List Flaw) → first_of (leading e flaws ∷ behind flaws) ≡ Some e
leads e [] = refl
leads e (flaw ∷ flaws) = refl

by_count : (of_count : Bool) (e : ShortError) (flaws : List Flaw) → first_of (if of_count then alone e ∷ flaws else leading e flaws ∷ behind flaws) ≡ Some e
by_count true e flaws = refl
by_count false e flaws = leads e flaws

pub led : (e : ShortError) (flaws : List Flaw) → first_of (led_by e flaws) ≡ Some e
led e flaws = by_count (is_of_count e) e flaws

pub begins : {A : Type 0} (table : Members) (reading : Result A ShortError) → first_of (all_flaws table reading) ≡ result_err reading
begins table (Ok x) = refl
begins table (Err e) = led e (table_flaws table)
