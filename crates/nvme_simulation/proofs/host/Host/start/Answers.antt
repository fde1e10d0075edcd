use Rattle.std.proofs.Common.{ℕ, arith, refl, subst}
use Rattle.nvme_simulation.specs.Stages.{MovesOne}
use Rattle.nvme_simulation.specs.declared.flight.Stage.TheVariants.{Picked}
use Rattle.nvme_simulation.proofs.Progress.{host_if, moved}
use Rattle.nvme_simulation.proofs.host.Host.start.Goals as goal

pub returns : goal.returns
returns c = record {
  goes = host_if _ _ _ c.start.result refl c.start.ensures.none
      (λ t. moved _ _ _ _ _ _ _ (λ e. absurd (grind (arith, e))) (λ f g s e. e) (c.start.ensures.moves t).1);
  moves = λ t. record { flights = subst (λ (n : ℕ). MovesOne n Picked c.args.now c.args.self.now.flights c.start.new.self) c.from.ensures (c.start.ensures.moves t); rest = refl };
}
