use Rattle.nvme_numbers.proofs.answer.object.put_row.Goals as goal

pub returns : goal.returns
returns g c = rw (c.rates.ensures, c.latencies.ensures, c.parts.ensures, c.feeds.ensures, c.aboves.ensures) at c.put_object.ensures
