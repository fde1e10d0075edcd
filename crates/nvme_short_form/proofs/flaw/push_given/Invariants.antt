use Rattle.std.proofs.Common.{◌≡◌, ◌++◌, drop}
use Rattle.nvme_short_form.specs.Flaws.{given}
use Rattle.nvme_short_form.proofs.flaw.push_given.Given as goal

abbrev pub invariant-loop-error : goal.invariant-loop-error
invariant-loop-error l = l.flaws.items ++ given l.inner (drop l.error-index l.errors) ≡ l.fn.flaws.items ++ given l.inner l.errors
