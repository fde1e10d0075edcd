use Rattle.std.proofs.Common.{◌≡◌, ◌∙◌, sym, ap, set}
use Rattle.std.specs.Prelude.{None, option_map}
use Rattle.std.proofs.lemmas.List.{set-get_or}
use Rattle.nvme_arbiter.specs.Queues.{queue_at, fewer}
use Rattle.nvme_arbiter.specs.Layout.{slots_in}
use Rattle.nvme_arbiter.proofs.queues.QueuesFields.take_from.Goals as goal

pub returns-in_default-clause-taken : goal.returns-in_default-clause-taken
returns-in_default-clause-taken c =
    let xs = slots_in c.args.self.now in
    let none : queue_at xs c.args.qid ≡ None = sym c.requires.is_there ∙ c.in_default.is in
    sym (ap (λ o. set xs c.args.qid (option_map (fewer c.args.n) o)) none ∙ ap (set xs c.args.qid) (sym none) ∙ set-get_or xs c.args.qid None)
