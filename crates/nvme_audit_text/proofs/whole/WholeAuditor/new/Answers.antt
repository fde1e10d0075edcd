use Rattle.std.proofs.Common.{◌∙◌}
use Rattle.nvme_audit_text.specs.Audits.{most_told}
use Rattle.nvme_audit_text.specs.WholeAudits.{most_broken}
use Rattle.nvme_audit_text.proofs.CountLemmas.{none_asked_whole}
use Rattle.nvme_audit_text.proofs.whole.WholeAuditor.new.Goals as goal

pub returns : goal.returns
returns c = record {
  stands = c.new.ensures.stands;
  broken_are = c.none.ensures most_broken;
  hosts_are = c.none-2.ensures most_told;
  asked_are = c.none_asked-asked.ensures c.args.start ∙ none_asked_whole c.args.start;
}
