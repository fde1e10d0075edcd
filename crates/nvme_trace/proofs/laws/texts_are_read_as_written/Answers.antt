use Rattle.nvme_trace.proofs.Leniently.{read_as_written, read_alike}
use Rattle.nvme_trace.proofs.laws.texts_are_read_as_written.Goals as goal

pub returns-clause-written : goal.returns-clause-written
returns-clause-written c = read_as_written

pub returns-clause-alike : goal.returns-clause-alike
returns-clause-alike c = read_alike
