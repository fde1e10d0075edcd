use Rattle.nvme_admin.proofs.FurtherLemmas.{sq-lives_are_counted, cq-lives_are_counted}
use Rattle.nvme_admin.proofs.laws.lives_are_counted.Goals as goal

pub returns : goal.returns
returns c = record { sqs = sq-lives_are_counted; cqs = cq-lives_are_counted }
