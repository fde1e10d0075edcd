use Rattle.nvme_log.proofs.PickedOnce.{serve_once}
use Rattle.nvme_log.proofs.laws.promises_serve_once.Goals as goal

pub returns : goal.returns
returns c = serve_once
