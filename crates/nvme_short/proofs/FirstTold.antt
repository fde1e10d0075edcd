-- The first fault is told first.
use Rattle.std.proofs.Common.{◌≡◌, List, [], ◌∷◌, Option, Some, None, map, take, refl, sym, ap, ◌∙◌}
use Rattle.std.specs.Result.{result_err}
use Rattle.toml.specs.Data.{Members}
use Rattle.nvme_short_form.specs.declared.error.ShortError.{ShortError}
use Rattle.nvme_short_form.specs.declared.flaw.Flaw.{Flaw}
use Rattle.nvme_short_form.specs.Flaws.{first_of, led_by, table_flaws}
use Rattle.nvme_short_form.proofs.Flaws.{led}
use Rattle.nvme_short.specs.declared.short_fault.ShortFault.{ShortFault}
use Rattle.nvme_short.specs.declared.faults.ShortFaults.{ShortFaults}
use Rattle.nvme_short.specs.declared.faults.TheConstants.{MOST_TOLD}
use Rattle.nvme_short.specs.Faults.{error_of, shown}
use Rattle.nvme_short.specs.Expansion.{AreFaultsIn, first_told, plan_of_short}

abbrev first_error : List ShortError → Option ShortError
first_error [] = None
first_error (e ∷ es) = Some e

of_told : (faults : List ShortFault) → first_told faults ≡ first_error (map shown faults)
of_told [] = refl
of_told (f ∷ fs) = refl

of_flaws : (flaws : List Flaw) → first_error (map error_of (take MOST_TOLD flaws)) ≡ first_of flaws
of_flaws [] = refl
of_flaws (f ∷ fs) = refl

pub first_is_first : (table : Members) (faults : ShortFaults) → AreFaultsIn table faults → first_told faults.told.items ≡ result_err (plan_of_short table)
first_is_first table faults are =
    of_told faults.told.items ∙ ap first_error are.told.told ∙ of_flaws (led_by are.first (table_flaws table)) ∙ led are.first (table_flaws table) ∙ sym (ap result_err are.is_first)
