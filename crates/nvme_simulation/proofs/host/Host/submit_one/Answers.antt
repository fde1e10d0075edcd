use Rattle.std.proofs.Common.{arith, refl}
use Rattle.nvme_simulation.proofs.Progress.{host_same, host_stays, moved}
use Rattle.nvme_simulation.proofs.Resting.{host_rests, rests_moved, rests_same}
use Rattle.nvme_simulation.specs.declared.flight.Stage.TheVariants.{Came}
use Rattle.nvme_simulation.proofs.host.Host.submit_one.Goals as goal

pub returns-then-is_full : goal.returns-then-is_full
returns-then-is_full c = record { goes = host_stays _ _; rests = host_rests _ }

pub returns-in_default : goal.returns-in_default
returns-in_default c = record { goes = host_same _ _ _ (c.submit.ensures.none c.in_default.is) refl; rests = rests_same _ _ (c.submit.ensures.none c.in_default.is) refl refl }

pub returns : goal.returns
returns c = record {
  goes = record { flights = moved _ _ _ _ _ _ _ (λ e. absurd (grind (arith, e))) (λ f g s e. e) c.in-Some.ensures.moves.1; asking = refl };
  rests = rests_moved _ _ Came _ _ _ (λ l. absurd (omega (arith, l))) (λ l. absurd (omega (arith, l))) refl refl c.in-Some.ensures.moves.1;
}
