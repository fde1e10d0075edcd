use Rattle.nvme_numbers.proofs.answer.table.put_machine.Goals as goal

pub returns : goal.returns
returns g c = rw (c.machine.ensures, c.placement.ensures, c.pauses.ensures, c.line_end.ensures) at c.put_rows.ensures
