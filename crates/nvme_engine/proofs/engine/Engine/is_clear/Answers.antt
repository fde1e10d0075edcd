use Rattle.std.proofs.Common.{List, sym, subst}
use Rattle.nvme_ctrl.specs.Standing.{Stands}
use Rattle.nvme_slots.specs.declared.slot.Slot.{Slot}
use Rattle.nvme_engine.proofs.Serving.{clear_told}
use Rattle.nvme_engine.proofs.engine.Engine.is_clear.Goals as goal

pub returns : goal.returns
returns c rules late notes s =
    clear_told notes s.plain c.is_clear.result
    (c.is_clear.ensures s.their s.their_late notes (subst (λ (xs : List Slot). Stands s.their s.their_late notes c.args.self.now.controller xs) (sym c.as_slice.ensures.value) s.stands))
