use Rattle.std.proofs.Common.{rules}
use Rattle.nvme_output.proofs.Items.{items_fail}
use Rattle.nvme_numbers.specs.Tables.{section_text}
use Rattle.nvme_numbers.proofs.answer.table.put_sections.Goals as goal

pub returns-in_err-put_section : goal.returns-in_err-put_section
returns-in_err-put_section g c =
    items_fail (section_text c.args.answer.now) c.args.sections.now c.loop-section.section-index _ _ _ _
    c.from_residual.result c.from_residual.ensures.0 (search rules) c.loop-section.invariant c.in_err-put_section.ensures
