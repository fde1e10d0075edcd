use Rattle.nvme_judge.proofs.TurnLemmas.{made}
use Rattle.nvme_judge.proofs.turns.Queues.new.Goals as goal

pub returns : goal.returns
returns c = made c.none.result c.none.ensures
