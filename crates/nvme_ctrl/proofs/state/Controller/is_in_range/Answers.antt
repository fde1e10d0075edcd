use Rattle.std.proofs.Common.{◌∙◌}
use Rattle.nvme_ctrl.proofs.KeptRanges.{kept_in_range}
use Rattle.nvme_ctrl.proofs.state.Controller.is_in_range.Goals as goal

pub returns-clause-kept : goal.returns-clause-kept
returns-clause-kept c is = c.has_ranges.ensures ∙ kept_in_range c.args.self.now c.args.slots.now is
