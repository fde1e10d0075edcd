use Rattle.nvme_numbers.proofs.answer.object.put_about.Goals as goal

pub returns : goal.returns
returns g c = rw (c.form-form.ensures, c.sources.ensures, c.times.ensures, c.pickings.ensures) at c.put_members.ensures
