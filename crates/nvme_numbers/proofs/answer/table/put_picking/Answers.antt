use Rattle.nvme_numbers.proofs.answer.table.put_picking.Goals as goal

pub returns : goal.returns
returns g c = rw (c.line_end.ensures, c.mechanism.ensures, c.bursts.ensures, c.burst.ensures, c.weights.ensures, c.line_end-2.ensures) at c.put_rows.ensures
