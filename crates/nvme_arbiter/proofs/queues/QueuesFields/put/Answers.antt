use Rattle.std.proofs.Common.{rules, ◌+◌, ◌∙◌, ap, set, nat_lt}
use Rattle.std.specs.Prelude.{Some}
use Rattle.nvme_arbiter.specs.Layout.{slots_in}
use Rattle.nvme_arbiter.specs.inside.Masks.{marked_with}
use Rattle.nvme_arbiter.specs.declared.queues.QueueFields.{QueueFields}
use Rattle.nvme_arbiter.proofs.MaskLemmas.{put-slot, slots-written}
use Rattle.nvme_arbiter.proofs.queues.QueuesFields.put.Goals as goal

pub returns-clause-is_put : goal.returns-clause-is_put
returns-clause-is_put c =
    let b = c.args.self.now in
    let queue = c.args.queue in
    let f : QueueFields = record { class = c.number.result + 1; count = queue.count } in
    ap slots_in (c.mark.ensures ∙ ap (λ k. marked_with (record b { places = set b.places k f }) c.args.qid queue.class (nat_lt 0 queue.count)) c.from.ensures)
    ∙ slots-written b c.args.qid queue.class f (nat_lt 0 queue.count) (Some queue) c.requires.qid (search rules) (search rules)
    (put-slot (record b { places = set b.places c.args.qid f }) c.args.qid c.number.result queue.count queue.class (search rules) c.requires c.number.ensures.number)
