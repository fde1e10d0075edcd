use Rattle.std.proofs.Common.{◌∙◌, sym}
use Rattle.std.proofs.lemmas.Option.{none-some}
use Rattle.nvme_admin.specs.Layout.{view_of}
use Rattle.nvme_placing.proofs.TokenLemmas.{cq-added}
use Rattle.nvme_placing.proofs.tokens.add_cq.Goals as goal

pub unreachable-requires : goal.unreachable-requires
unreachable-requires c =
    none-some c.in-Err.field-0
    (sym (cq-added (view_of c.args.table.now) c.args.number c.args.slots c.requires.sqs c.requires.cqs c.requires.next c.requires.room c.requires.size) ∙ c.in-Err.ensures.refused)
