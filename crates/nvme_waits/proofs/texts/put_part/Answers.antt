use Rattle.nvme_waits.proofs.texts.put_part.Goals as goal

pub returns-in-Service : goal.returns-in-Service
returns-in-Service g c = rw c.in-Service.is (rw (c.column.ensures, c.from.ensures) at c.put_members.ensures)

pub returns-in-Open : goal.returns-in-Open
returns-in-Open g c = rw c.in-Open.is c.put.ensures
