-- What was there is the one that is taken, and the rest.
use Rattle.std.proofs.Common.{List, ◌∷◌, sym, subst}
use Rattle.std.specs.List.Sorted.{IsPermutation}
use Rattle.std.proofs.lemmas.List.Sorted.{IsPermutation-swap_remove}
use Rattle.nvme_jobs.specs.declared.dispatched.Dispatched.{Dispatched}
use Rattle.nvme_jobs.proofs.running.take_at.Goals as goal

pub returns-clause-rest : goal.returns-clause-rest
returns-clause-rest c =
    subst (λ (ds : List Dispatched). IsPermutation c.args.commands.now.items (c.swap_remove.result ∷ ds)) (sym c.swap_remove.ensures.items)
    (IsPermutation-swap_remove c.args.commands.now.items c.args.i c.swap_remove.result c.requires c.swap_remove.ensures.value)
