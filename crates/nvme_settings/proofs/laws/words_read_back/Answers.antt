use Rattle.nvme_settings.proofs.Said.{words_back}
use Rattle.nvme_settings.proofs.laws.words_read_back.Goals as goal

pub returns : goal.returns
returns c = words_back
