use Rattle.nvme_entry.proofs.Exact.{one_submission_list}
use Rattle.nvme_entry.proofs.laws.submission_layout_is_exact.Goals as goal

pub returns-clause-one_list : goal.returns-clause-one_list
returns-clause-one_list c = one_submission_list
