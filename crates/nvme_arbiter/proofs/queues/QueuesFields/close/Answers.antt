use Rattle.std.proofs.Common.{rules, ◌∙◌, ap, set, false}
use Rattle.std.specs.Prelude.{None}
use Rattle.nvme_arbiter.specs.Layout.{closed, slots_in}
use Rattle.nvme_arbiter.specs.inside.Masks.{marked_with}
use Rattle.nvme_arbiter.proofs.MaskLemmas.{closed-slot, slots-written, written}
use Rattle.nvme_arbiter.proofs.queues.QueuesFields.close.Goals as goal

pub returns-clause-closed : goal.returns-clause-closed
returns-clause-closed c =
    let b = c.args.self.now in
    ap slots_in (c.mark.ensures ∙ ap (λ k. marked_with (record b { places = set b.places k closed }) c.args.qid c.args.class false) c.from.ensures)
    ∙ slots-written b c.args.qid c.args.class closed false None c.requires (search rules) (search rules) (closed-slot (written b c.args.qid c.args.class closed false) c.args.qid)
