use Rattle.nvme_waits.proofs.texts.put_line.Goals as goal

pub returns : goal.returns
returns g c = rw (c.queue.ensures, c.longest-seen.ensures, c.reason.ensures, c.line_end.ensures) at c.put_rows.ensures
