use Rattle.std.proofs.Common.{sym, ◌∙◌}
use Rattle.nvme_front.proofs.ClearAnswer.{clear_answer, some_items}
use Rattle.nvme_front.proofs.state.FrontState.is_clear.Goals as goal
use Rattle.nvme_front.proofs.state.FrontState.is_clear.Goals.{then-is_empty, else-is_empty}

pub returns-else-is_empty-2 : goal.returns-else-is_empty-2
returns-else-is_empty-2 c =
    let s = c.args.self.now in
    elim c.if-is_empty.branch [
      | then-is_empty w ↦ absurd (cc (w.if-is_empty.true, w.value-is, c.if-is_empty-2.false))
      | else-is_empty w ↦
          let sq = some_items _ _ c.is_empty.result c.is_empty.ensures w.if-is_empty.false s.sqs.ok.0 in
          let cq = some_items _ _ w.is_empty-else-is_empty.result w.is_empty-else-is_empty.ensures (sym w.value-is ∙ c.if-is_empty-2.false) s.cqs.ok.0 in
          clear_answer s c.requires.consistent (sq, cq) c.is_clear.result c.is_clear.ensures
    ]
