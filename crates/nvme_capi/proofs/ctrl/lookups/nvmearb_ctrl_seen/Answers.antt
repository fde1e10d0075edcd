use Rattle.std.proofs.Common.{◌∙◌, Some, sym, ap}
use Rattle.nvme_arbiter.specs.declared.pick.Seen.{Seen}
use Rattle.nvme_log.specs.Queues.{open_sq}
use Rattle.nvme_ctrl_log.specs.Notes.{logged}
use Rattle.nvme_ctrl_log.specs.Observation.{shown_as}
use Rattle.nvme_capi.proofs.Queues.{none_made}
use Rattle.nvme_capi.proofs.ctrl.lookups.nvmearb_ctrl_seen.Goals as goal

pub returns-in-Some-clause-found : goal.returns-in-Some-clause-found
returns-in-Some-clause-found c = λ rules late notes slots s _.
    sym (c.seen.ensures rules late notes slots s) ∙ c.in-Some.is ∙ ap (λ (x : Seen). Some x) (sym c.fields_of_seen.ensures)

pub returns-in-None-clause-nothing : goal.returns-in-None-clause-nothing
returns-in-None-clause-nothing c = λ rules late notes slots s _.
    none_made (shown_as notes c.args.qid) (open_sq (logged notes) c.args.qid) (sym (c.seen.ensures rules late notes slots s) ∙ c.in-None.is)
