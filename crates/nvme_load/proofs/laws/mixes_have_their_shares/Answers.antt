use Rattle.nvme_load.proofs.Shares.{fair}
use Rattle.nvme_load.proofs.laws.mixes_have_their_shares.Goals as goal

pub returns : goal.returns
returns c = λ read write flush some. fair read write flush
