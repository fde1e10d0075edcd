use Rattle.nvme_numbers.proofs.answer.table.put_fairness.Goals as goal

pub returns : goal.returns
returns g c = rw (c.fairness.ensures, c.fairness_by_weight.ensures, c.line_end.ensures) at c.put_rows.ensures
