use Rattle.std.proofs.Common.{◌≡◌, drop}
use Rattle.nvme_model_form.specs.Readings.{is_known}
use Rattle.nvme_model_form.proofs.values.is_known.Given as goal

abbrev pub invariant-loop-key : goal.invariant-loop-key
invariant-loop-key l = is_known (drop l.key-index l.keys) l.name ≡ is_known l.keys l.name
