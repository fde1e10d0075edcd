use Rattle.nvme_arbiter.proofs.SettingsLemmas.{writes_back, reads_back, fits, only_levels}
use Rattle.nvme_arbiter.proofs.laws.settings_and_cdw11.Goals as goal

pub returns : goal.returns
returns c = record { writes_back = writes_back; reads_back = reads_back; fits = fits; only_levels = only_levels }
