use Rattle.nvme_admin.proofs.LawLemmas.{no_request-after_create}
use Rattle.nvme_admin.proofs.laws.no_request_after_create.Goals as goal

pub returns : goal.returns
returns c = no_request-after_create
