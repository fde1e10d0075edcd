use Rattle.std.proofs.Common.{◌∙◌, Some, sym, ap}
use Rattle.std.specs.Prelude.{is_some}
use Rattle.nvme_log.specs.Queues.{open_sq}
use Rattle.nvme_ctrl_log.specs.Notes.{logged}
use Rattle.nvme_capi.proofs.Queues.{none_there, the_queue}
use Rattle.nvme_capi.proofs.ctrl.lookups.nvmearb_ctrl_sq.Goals as goal

pub returns-in-Some-clause-found : goal.returns-in-Some-clause-found
returns-in-Some-clause-found c = λ rules late notes slots s _. sym (c.sq_region.ensures.told rules late notes slots s) ∙ ap is_some c.in-Some.is

pub returns-in-Some-clause-on_regions : goal.returns-in-Some-clause-on_regions
returns-in-Some-clause-on_regions c = λ rules late notes slots s placing _.
    the_queue (open_sq (logged notes) c.args.qid) c.from.result (ap Some c.from.ensures ∙ (sym c.in-Some.is ∙ c.sq_region.ensures.on_regions rules late notes slots s placing))

pub returns-in-None-clause-nothing : goal.returns-in-None-clause-nothing
returns-in-None-clause-nothing c = λ rules late notes slots s _.
    none_there (open_sq (logged notes) c.args.qid) (sym (c.sq_region.ensures.told rules late notes slots s) ∙ ap is_some c.in-None.is)

pub returns-in-Some-clause-anywhere : goal.returns-in-Some-clause-anywhere
returns-in-Some-clause-anywhere c = λ rules late notes slots s on _ few. c.from.ensures ∙ c.in-Some.ensures.anywhere rules late notes slots s on few
