use Rattle.std.proofs.Common.{◌<◌, length, arith}
use Rattle.nvme_front.proofs.ClearAnswer.{some_items}
use Rattle.nvme_front.proofs.ServedAnswers.{engine_answer}
use Rattle.nvme_front.proofs.state.FrontState.is_serving.Goals as goal

pub returns : goal.returns
returns c =
    let s = c.args.self.now in
    let there : c.args.region < length s.sqs.items = omega arith in
    engine_answer s c.requires.consistent c.args.region there (some_items _ _ c.is_empty.result c.is_empty.ensures c.if-is_empty.false s.cqs.ok.0) c.is_serving.result c.is_serving.ensures
