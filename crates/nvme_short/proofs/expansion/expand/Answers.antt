use Rattle.std.proofs.Common.{string_bytes}
use Rattle.std.proofs.lemmas.Str.{IsUtf8-string_bytes}
use Rattle.toml.specs.View.{table_view}
use Rattle.nvme_workload.specs.Plan.{plan_of}
use Rattle.nvme_short.proofs.ReadBack.{written_reads}
use Rattle.nvme_short.proofs.expansion.expand.Goals as goal

pub returns-in-Ok-clause-ok : goal.returns-in-Ok-clause-ok
returns-in-Ok-clause-ok c =
    written_reads (table_view c.args.table.now) (table_view c.in_ok-written.written) (plan_of c.in_ok-_workload._workload) (string_bytes c.in-Ok.text)
    c.in_ok-written.ensures.value c.in_ok-_workload.ensures.value (IsUtf8-string_bytes c.in-Ok.text) (c.in-Ok.ensures.reads_back c.in_ok-written.ensures.shallow)
