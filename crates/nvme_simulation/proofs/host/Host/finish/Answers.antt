use Rattle.std.proofs.Common.{ℕ, arith, refl, subst}
use Rattle.nvme_simulation.specs.Progress.{HostEndsOne}
use Rattle.nvme_simulation.specs.declared.flight.Stage.TheVariants.{Started}
use Rattle.nvme_simulation.proofs.Progress.{ended, host_same, if_some}
use Rattle.nvme_simulation.proofs.Resting.{rests_by, rests_moved}
use Rattle.nvme_simulation.proofs.host.Host.finish.Goals as goal

pub returns-clause-ends : goal.returns-clause-ends
returns-clause-ends c now =
    if_some _ _ c.finish.result
    (λ flight m. subst (λ (n : ℕ). HostEndsOne n now flight c.args.self.now (record c.args.self.now { flights = c.finish.new.self })) c.from.ensures
    (record { flights = ended _ 0 now flight _ _ m; asking = refl })) c.finish.ensures.moves

pub returns-clause-none : goal.returns-clause-none
returns-clause-none c is now = host_same now _ _ (c.finish.ensures.none is) refl

pub returns-clause-rests : goal.returns-clause-rests
returns-clause-rests c =
    rests_by _ _ _ c.finish.result refl refl c.finish.ensures.none c.finish.ensures.moves
    (λ flight m. rests_moved _ _ Started flight _ _ (λ l. omega arith) (λ l. omega arith) refl refl m)
