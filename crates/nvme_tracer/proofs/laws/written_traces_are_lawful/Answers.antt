use Rattle.nvme_tracer.proofs.TraceLaws.{read_back, lawful}
use Rattle.nvme_tracer.proofs.laws.written_traces_are_lawful.Goals as goal

pub returns : goal.returns
returns c = record { read_back = read_back; lawful = lawful }
