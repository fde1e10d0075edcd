use Rattle.nvme_short_form.specs.Form.{form_of}
use Rattle.nvme_short_form.proofs.Flaws.{begins}
use Rattle.nvme_short_form.proofs.laws.faults_begin_with_the_first.Goals as goal

pub returns : goal.returns
returns c = λ table. begins table (form_of table)
