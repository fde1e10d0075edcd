use Rattle.std.proofs.Common.{◌∙◌, Some, sym, ap}
use Rattle.std.specs.Prelude.{is_some}
use Rattle.nvme_log.specs.Queues.{open_cq}
use Rattle.nvme_ctrl_log.specs.Notes.{logged}
use Rattle.nvme_capi.proofs.Queues.{none_there}
use Rattle.nvme_capi.proofs.ctrl.lookups.nvmearb_ctrl_cq.Goals as goal

pub returns-in-Some-clause-found : goal.returns-in-Some-clause-found
returns-in-Some-clause-found c = λ rules late notes slots s _. sym (c.cq_region.ensures.told rules late notes slots s) ∙ ap is_some c.in-Some.is

pub returns-in-Some-clause-on_regions : goal.returns-in-Some-clause-on_regions
returns-in-Some-clause-on_regions c = λ rules late notes slots s placing _.
    sym (c.cq_region.ensures.on_regions rules late notes slots s placing) ∙ (c.in-Some.is ∙ ap Some (sym c.from.ensures))

pub returns-in-None-clause-nothing : goal.returns-in-None-clause-nothing
returns-in-None-clause-nothing c = λ rules late notes slots s _.
    none_there (open_cq (logged notes) c.args.cqid) (sym (c.cq_region.ensures.told rules late notes slots s) ∙ ap is_some c.in-None.is)

pub returns-in-Some-clause-anywhere : goal.returns-in-Some-clause-anywhere
returns-in-Some-clause-anywhere c = λ rules late notes slots s on _ few. c.from.ensures ∙ c.in-Some.ensures.anywhere rules late notes slots s on few
