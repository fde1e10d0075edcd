use Rattle.nvme_numbers.proofs.answer.sheet.put_line.Goals as goal

pub returns-in-Names : goal.returns-in-Names
returns-in-Names g c =
    rw c.in-Names.is (rw (c.seed-seed.ensures, c.origins.ensures, c.scopes.ensures, c.commands.ensures, c.rates.ensures, c.latencies.ensures, c.parts.ensures, c.totals.ensures, c.feeds.ensures, c.aboves.ensures)
    at c.put_names.ensures)

pub returns-in-Values : goal.returns-in-Values
returns-in-Values g c =
    rw c.in-Values.is (rw (c.seed-seed.ensures, c.origins.ensures, c.scopes.ensures, c.commands.ensures, c.rates.ensures, c.latencies.ensures, c.parts.ensures, c.totals.ensures, c.feeds.ensures, c.aboves.ensures)
    at c.put_values.ensures)
