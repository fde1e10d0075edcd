use Rattle.std.proofs.Common.{refl}
use Rattle.rand_core.specs.Steps.{stream_of}
use Rattle.rand_core.specs.Stream.{next_u64}
use Rattle.nvme_clock.specs.Draws.{uniform_from}
use Rattle.nvme_load.proofs.laws.worked_mixes.Goals as goal

pub returns : goal.returns
unfolding stream_of next_u64 uniform_from
returns c = record {
  last_read = refl;
  first_write = refl;
  last_write = refl;
  flush = refl;
  next_round = refl;
  last_accepted = refl;
  rejected = refl;
  next_command = refl;
  no_reads = refl;
  flushes_alone = refl;
}
