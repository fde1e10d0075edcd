use Rattle.std.proofs.Common.{◌==◌, not, rules, ap, ◌∙◌}
use Rattle.std.specs.Map.{lookup}
use Rattle.std.proofs.lemmas.Map.Made.{filter_same_pairs}
use Rattle.nvme_audit.proofs.CommandLemmas.{is_named, lookup-filter_queue}
use Rattle.nvme_audit.proofs.commands.Commands.remove_queue.Goals as goal

pub returns : goal.returns
returns c = λ q n.
    ap (lookup (is_named q n)) (filter_same_pairs _ (λ e. not (e.0.0 == c.args.sq)) _ (λ k v b w f' t. search rules) _ _ c.retain.ensures.filtered)
    ∙ lookup-filter_queue c.args.sq q n _
