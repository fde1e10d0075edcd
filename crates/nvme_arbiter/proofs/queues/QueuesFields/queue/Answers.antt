use Rattle.std.proofs.Common.{◌∙◌, sym, ap, subst, arith}
use Rattle.std.specs.Prelude.{slice_index_or}
use Rattle.nvme_arbiter.specs.Queues.{FitsUnder}
use Rattle.nvme_arbiter.specs.Layout.{slot_in, closed}
use Rattle.nvme_arbiter.proofs.MaskLemmas.{fits, none-past, slot-at}
use Rattle.nvme_arbiter.proofs.queues.QueuesFields.queue.Goals as goal

pub returns-then-qid-gt-HIGHEST_QID-clause-is_there : goal.returns-then-qid-gt-HIGHEST_QID-clause-is_there
returns-then-qid-gt-HIGHEST_QID-clause-is_there c = sym (none-past c.args.self.now c.args.qid (omega (arith, c.if-qid-gt-HIGHEST_QID.true)))

pub returns-else-qid-gt-HIGHEST_QID-clause-is_there : goal.returns-else-qid-gt-HIGHEST_QID-clause-is_there
returns-else-qid-gt-HIGHEST_QID-clause-is_there c =
    let b = c.args.self.now in
    c.slot.ensures ∙ ap (λ k. slot_in b c.args.qid (slice_index_or b.places k closed)) c.from.ensures ∙ sym (slot-at b c.args.qid (omega (arith, c.if-qid-gt-HIGHEST_QID.false)))

pub returns-else-qid-gt-HIGHEST_QID-clause-fits : goal.returns-else-qid-gt-HIGHEST_QID-clause-fits
returns-else-qid-gt-HIGHEST_QID-clause-fits c =
    let b = c.args.self.now in
    let there = c.slot.ensures ∙ ap (λ k. slot_in b c.args.qid (slice_index_or b.places k closed)) c.from.ensures ∙ sym (slot-at b c.args.qid (omega (arith, c.if-qid-gt-HIGHEST_QID.false))) in
    subst (FitsUnder c.args.qid) (sym there) (fits b c.args.qid)
