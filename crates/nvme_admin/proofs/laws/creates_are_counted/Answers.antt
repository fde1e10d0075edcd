use Rattle.nvme_admin.proofs.FurtherLemmas.{sq-creates_are_counted, cq-creates_are_counted}
use Rattle.nvme_admin.proofs.laws.creates_are_counted.Goals as goal

pub returns : goal.returns
returns c = record { sqs = sq-creates_are_counted; cqs = cq-creates_are_counted }
