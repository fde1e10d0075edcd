-- What the board shows is what arbitration sees.
use Rattle.std.proofs.Common.{ap, ◌∙◌}
use Rattle.nvme_arbiter.specs.Board.{BoardView}
use Rattle.nvme_arbiter.specs.Queues.{seen_of}
use Rattle.nvme_ctrl_content.proofs.Observing.{seen_is_observed}
use Rattle.nvme_ctrl.proofs.state.Controller.observed.Goals as goal

pub returns : goal.returns
returns c rules late notes pool s =
    c.seen.ensures.seen ∙ ap (λ (b : BoardView). seen_of b.queues) s.numbers.board_is
    ∙ seen_is_observed notes s.content s.holds.regions s.holds.queues s.shown
