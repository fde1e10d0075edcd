-- Of what part of a workload a warning is. (profile)
use Rattle.nvme_lint.specs.declared.part.Part.{Part}
use Rattle.nvme_lint.specs.declared.part.Part.TheVariants as part
use Rattle.nvme_lint.specs.declared.warning.Warning.{Warning}
use Rattle.nvme_lint.specs.declared.warning.Warning.TheVariants.{Refused, NoTarget, Unused, TooLong, Failing, WeightsUnheeded, ClassesUnheeded}
use Rattle.nvme_lint.specs.declared.warning.Kind.TheVariants as kind

abbrev pub part_of : Warning → Part
part_of (Refused command entry status site room) = part.Command command
part_of (NoTarget command entry commands) = part.Command command
part_of (Unused kind.Submission region commands) = part.Submission region
part_of (Unused kind.Completion region commands) = part.Completion region
part_of (TooLong region commands slots) = part.Submission region
part_of (Failing region failing commands status) = part.Submission region
part_of WeightsUnheeded = part.Whole
part_of ClassesUnheeded = part.Whole
