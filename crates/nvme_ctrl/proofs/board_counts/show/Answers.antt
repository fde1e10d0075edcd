use Rattle.std.proofs.Common.{◌≡◌, ◌+◌, List, Option, Some, None, ap, subst, ◌∙◌, arith}
use Rattle.std.specs.Prelude.{slice_set, IfSome}
use Rattle.std.proofs.lemmas.List.{set-set}
use Rattle.nvme_arbiter.specs.Board.{BoardView}
use Rattle.nvme_arbiter.specs.Layout.{board_of}
use Rattle.nvme_arbiter.specs.declared.pick.OpenQueue.{OpenQueue}
use Rattle.nvme_ctrl.proofs.board_counts.show.Goals as goal

pub returns-clause-shown : goal.returns-clause-shown
returns-clause-shown c =
    let q = c.args.qid in
    let old : BoardView = board_of c.args.board.now in
    let mid : BoardView = board_of c.open.new.self in
    let empty : OpenQueue = record { class = c.args.class; count = 0 } in
    let full : OpenQueue = record { class = c.args.class; count = 0 + c.args.count } in
    let came : board_of c.came_n.new.self ≡ record mid { queues = slice_set mid.queues q (Some full) } =
    subst (λ (o : Option OpenQueue). IfSome o (λ (queue : OpenQueue). board_of c.came_n.new.self ≡ record mid { queues = slice_set mid.queues q (Some (record queue { count = queue.count + c.args.count })) }))
    c.open.ensures.there c.came_n.ensures.came in
    let sum : 0 + c.args.count ≡ c.args.count = omega arith in
    came
    ∙ ap (λ (b : BoardView). record b { queues = slice_set b.queues q (Some full) })
    (c.open.ensures.opened ∙ ap (λ (b : BoardView). record b { queues = slice_set b.queues q (Some empty) }) c.close.ensures.closed)
    ∙ ap (λ (qs : List (Option OpenQueue)). record old { queues = qs })
    (set-set (slice_set old.queues q None) q (Some empty) (Some full) ∙ set-set old.queues q None (Some full)
    ∙ ap (λ n. slice_set old.queues q (Some (record { class = c.args.class; count = n }))) sum)
