-- What waits first in the admin queue is what its next pick takes.
use Rattle.std.proofs.Common.{Option, sym, ap, ◌∙◌}
use Rattle.nvme_entry.specs.declared.submission.Sqe.{Sqe}
use Rattle.nvme_log.specs.Aborts.{is_abort_entry}
use Rattle.nvme_ctrl.proofs.PlacesNeeded.{first_entry, no_entry}
use Rattle.nvme_ctrl.proofs.state.Controller.is_abort_first.Goals as goal

pub returns-in-Some : goal.returns-in-Some
returns-in-Some c rules late notes s =
    c.is_abort.ensures
    ∙ ap (λ (o : Option Sqe). is_abort_entry o) (sym (first_entry rules late notes c.args.self.now c.args.slots.now s c.in-Some.oldest.entry c.in-Some.oldest.cookie
    (c.in-Some.ensures.some rules late notes s)))

pub returns-in-None : goal.returns-in-None
returns-in-None c rules late notes s =
    ap (λ (o : Option Sqe). is_abort_entry o) (sym (no_entry rules late notes c.args.self.now c.args.slots.now s (c.waits.ensures.none rules late notes s c.in-None.is)))
