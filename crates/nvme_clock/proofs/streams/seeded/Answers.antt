use Rattle.nvme_clock.specs.Streams.{seeded}
use Rattle.nvme_clock.proofs.streams.seeded.Goals as goal

pub returns : goal.returns
unfolding seeded
returns c = c.seed_from_u64.ensures
