use Rattle.std.proofs.Common.{◌∷◌, sym, subst}
use Rattle.nvme_arbiter.specs.Board.{BoardStandsAt}
use Rattle.nvme_arbiter.specs.History.{Picked}
use Rattle.nvme_arbiter.specs.Layout.{board_of, slots_in}
use Rattle.nvme_arbiter.specs.Queues.{seen_of}
use Rattle.nvme_capi.proofs.board.nvmearb_board_pick_up_to.Goals as goal

pub returns-in-Some-clause-stands : goal.returns-in-Some-clause-stands
returns-in-Some-clause-stands c = λ _ m first past h.
    let seen = seen_of (slots_in c.args.state.now.board.queues) in
    subst (λ p. BoardStandsAt m first (Picked seen p ∷ past) (board_of c.pick_up_to.new.self)) (sym c.fields_of_pick.ensures.same) (c.in-Some.ensures.stands m first past h)
