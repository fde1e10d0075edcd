use Rattle.std.proofs.Common.{◌≡◌, sym, ap}
use Rattle.nvme_arbiter.specs.Board.{BoardView}
use Rattle.nvme_arbiter.specs.Layout.{slots_in}
use Rattle.nvme_arbiter.proofs.board.Board.peek.Goals as goal

pub returns-clause-none_where_idle : goal.returns-clause-none_where_idle
returns-clause-none_where_idle c =
    let queues : c.args.self.now.queues ≡ slots_in c.self.inside.fields.queues = ap (λ (v : BoardView). v.queues) (sym c.self.view_is) in
    rw queues c.peek.ensures.none_where_idle
