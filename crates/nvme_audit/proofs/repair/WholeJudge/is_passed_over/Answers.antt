use Rattle.std.proofs.Common.{ap, ◌∙◌}
use Rattle.nvme_entry.specs.declared.admin.AdminCommand.{AdminCommand}
use Rattle.nvme_audit.specs.Repairs.{is_among, is_let_go}
use Rattle.nvme_audit.proofs.RepairLemmas.{among_stands}
use Rattle.nvme_audit.proofs.repair.WholeJudge.is_passed_over.Goals as goal

pub returns : goal.returns
returns c = λ start past at.
    c.is_among.ensures
    ∙ (among_stands start past c.args.self.now c.answered_at.result c.args.event.now at
    ∙ ap (λ (a : AdminCommand). is_among (λ queue. is_let_go start past queue) a c.args.event.now) (c.answered_at.ensures start past at.stands))
