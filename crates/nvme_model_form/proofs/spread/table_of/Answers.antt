use Rattle.std.proofs.Common.{◌≡◌, None, rules}
use Rattle.nvme_model_form.specs.Services.{table_of}
use Rattle.nvme_model_form.proofs.Rising.{is_none, is_table}
use Rattle.nvme_model_form.proofs.spread.table_of.Goals as goal

pub returns-in-Ok : goal.returns-in-Ok
returns-in-Ok c = rw c.in-Ok.ensures.ok (is_table c.args.times.items c.in-Ok.ensures.table)

pub returns-in-Err : goal.returns-in-Err
returns-in-Err c =
    let none : table_of c.args.times.items ≡ None = is_none c.args.times.items c.in-Err.fault c.in-Err.ensures.err in
    search (rules, none)
