use Rattle.std.proofs.Common.{◌∙◌, ap}
use Rattle.std.specs.Prelude.{slice_set}
use Rattle.nvme_slots.specs.Rings.{first_ring}
use Rattle.nvme_slots.specs.declared.ring.Ring.{Ring}
use Rattle.nvme_ctrl.specs.declared.state.SqState.{SqState}
use Rattle.nvme_ctrl.proofs.Opening.{keeps_opened}
use Rattle.nvme_ctrl.proofs.state.Controller.open_sq.Goals as goal

pub returns-clause-kept : goal.returns-clause-kept
returns-clause-kept c = λ within free of_class rules notes slots k g region x h none o.
    let a = c.args.self.now in
    keeps_opened rules notes a c.put_sq.new.self slots k g c.args.qid c.args.size c.args.cqid region x c.args.class c.show_empty.new.board h none o (c.show_empty.ensures.opened within free of_class) c.show_empty.ensures.arbiter (c.show_empty.ensures.there within free of_class)
    (c.put_sq.ensures ∙ ap (λ (r : Ring). record a { board = c.show_empty.new.board; sqs = slice_set a.sqs c.args.qid (record c.none.result { ring = r; cqid = c.args.cqid }) }) c.new.ensures.value
    ∙ ap (λ (s : SqState). record a { board = c.show_empty.new.board; sqs = slice_set a.sqs c.args.qid (record s { ring = first_ring c.args.size; cqid = c.args.cqid }) }) c.none.ensures)
