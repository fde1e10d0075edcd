use Rattle.nvme_arbiter.proofs.PickLaws.{picks_are_measured}
use Rattle.nvme_arbiter.proofs.laws.lawful_picks_are_measured.Goals as goal

pub returns : goal.returns
returns c = picks_are_measured
