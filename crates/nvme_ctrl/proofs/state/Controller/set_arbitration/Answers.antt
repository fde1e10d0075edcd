use Rattle.std.proofs.Common.{is_some, refl, ap, ◌∙◌}
use Rattle.nvme_arbiter.specs.Layout.{board_of, slots_in}
use Rattle.nvme_arbiter.specs.Board.{BoardView}
use Rattle.nvme_arbiter.specs.Queues.{queue_at}
use Rattle.nvme_arbiter.specs.declared.queues.QueuesFields.{QueuesFields}
use Rattle.nvme_ctrl.specs.kept.Kept.{shown_in}
use Rattle.nvme_ctrl.proofs.Windowed.{keeps_board}
use Rattle.nvme_ctrl.proofs.state.Controller.set_arbitration.Goals as goal

pub returns-clause-kept : goal.returns-clause-kept
returns-clause-kept c = λ rules notes slots k g h.
    keeps_board rules notes c.args.self.now slots k g c.set.new.self (board_of c.set.new.self) h refl c.set.ensures.is_arbiter
    (λ q r is. ap (λ (f : QueuesFields). is_some (queue_at (slots_in f) q)) c.set.ensures.queues ∙ ap (λ (v : BoardView). shown_in v q) h.numbers.board_is)
