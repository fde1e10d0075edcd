use Rattle.nvme_numbers.proofs.answer.table.put_counts.Goals as goal

pub returns : goal.returns
returns g c = rw (c.count.ensures, c.began.ensures, c.end.ensures, c.warm_up.ensures, c.line_end.ensures) at c.put_rows.ensures
