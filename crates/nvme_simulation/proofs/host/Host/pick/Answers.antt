use Rattle.std.proofs.Common.{ℕ, arith, refl, subst}
use Rattle.nvme_simulation.specs.Progress.{HasAsked}
use Rattle.nvme_simulation.proofs.Progress.{asked, host_by, if_some, moved}
use Rattle.nvme_simulation.proofs.Taking.{moves_some}
use Rattle.nvme_simulation.proofs.host.Host.pick.Goals as goal

pub returns-clause-goes : goal.returns-clause-goes
returns-clause-goes c =
    host_by _ _ _ _ c.pick.result refl c.pick.ensures.none c.pick.ensures.moves
    (λ x m. moved _ _ _ _ _ _ _ (λ e. absurd (grind (arith, e))) (λ f g s e. e) m.moves)

pub returns-clause-asks : goal.returns-clause-asks
returns-clause-asks c =
    if_some _ _ c.pick.result
    (λ request m. subst (λ (n : ℕ). HasAsked n c.args.self.now.flights request) c.from.ensures (asked _ _ _ _ _ _ m)) c.pick.ensures.moves

pub returns-clause-moves : goal.returns-clause-moves
returns-clause-moves c = moves_some _ c.pick.result _ _ _ _ _ _ c.from.ensures refl c.pick.ensures.moves (λ x m. (m.flight, m.moves))
