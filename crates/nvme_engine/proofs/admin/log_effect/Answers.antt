use Rattle.std.proofs.Common.{ℕ, [], ◌∷◌, ◌++◌, map, append_assoc, sym, ◌∙◌}
use Rattle.nvme_log.specs.declared.event.Event.TheVariants.{Abort, Closing}
use Rattle.nvme_engine.specs.Making.{made_in}
use Rattle.nvme_engine.proofs.admin.log_effect.Goals as goal

pub returns-in-Dropped : goal.returns-in-Dropped
returns-in-Dropped c =
    let log = c.args.log.now.items in
    let qid = c.in-BeginDelete.qid in
    let region = c.in-BeginDelete.region in
    c.log_dropped.ensures
    ∙ (λ t. c.push_reserved-in-BeginDelete.ensures.items t ++ map (λ (i : ℕ). Abort region i) (c.as_slice.ensures.value t))
    ∙ append_assoc log (Closing qid region ∷ []) (map (λ (i : ℕ). Abort region i) c.in-Dropped.indexes.items)
    ∙ sym (λ t. log ++ made_in (c.in-BeginDelete.is t) (c.in-Dropped.is t))
