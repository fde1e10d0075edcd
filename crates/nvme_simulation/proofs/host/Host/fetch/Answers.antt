use Rattle.std.proofs.Common.{arith, refl}
use Rattle.nvme_simulation.proofs.Progress.{fetched_at, host_same, host_stays, moved}
use Rattle.nvme_simulation.proofs.Resting.{host_rests, rests_moved, rests_same}
use Rattle.nvme_simulation.specs.declared.flight.Stage.TheVariants.{Submitted}
use Rattle.nvme_simulation.proofs.host.Host.fetch.Goals as goal

pub returns-in_default : goal.returns-in_default
returns-in_default c = record { goes = λ now. host_stays now _; rests = host_rests _ }

pub returns-in-Some-fetch : goal.returns-in-Some-fetch
returns-in-Some-fetch c = record {
  goes = λ now. record { flights = moved _ _ 0 now _ _ _ (λ e. absurd (grind (arith, e))) (fetched_at 0 now) c.in-Some-fetch.ensures.moves.moves; asking = refl };
  rests = rests_moved _ _ Submitted _ _ _ (λ l. absurd (omega (arith, l))) (λ l. absurd (omega (arith, l))) refl refl c.in-Some-fetch.ensures.moves.moves;
}

pub returns-in-None : goal.returns-in-None
returns-in-None c = record { goes = λ now. host_same now _ _ (c.fetch.ensures.none c.in-None.is) refl; rests = rests_same _ _ (c.fetch.ensures.none c.in-None.is) refl refl }
