use Rattle.toml.proofs.Views.{table_get}
use Rattle.nvme_model_form.proofs.values.value_in.Goals as goal

pub returns : goal.returns
returns c = rw (← c.name.ensures.text) (table_get c.get.result c.name.result.now c.args.table.now.entries c.get.ensures.value)
