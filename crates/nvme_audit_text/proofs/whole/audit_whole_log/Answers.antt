use Rattle.std.proofs.Common.{◌≡◌, ℕ, List, Option, Ok, subst}
use Rattle.nvme_lines.specs.Lines.{TakesTold}
use Rattle.nvme_audit_text.specs.Format.{head_of_line}
use Rattle.nvme_audit_text.specs.WholeAudits.{IsWholeAudit, IsWholeFault}
use Rattle.nvme_audit_text.proofs.AuditLemmas.{all_answers, all_faults}
use Rattle.nvme_audit_text.proofs.whole.audit_whole_log.Goals as goal

pub returns-in-Ok-clause-answer : goal.returns-in-Ok-clause-answer
returns-in-Ok-clause-answer g c =
    let known = g.R.Read.remaining c.args.reader in
    let new = c.head_in_text.new.lines.rest in
    let n = c.head_in_text.new.lines.number in
    let took = subst (λ (k : Option (List ℕ)). TakesTold (λ line. head_of_line c.args.through.now line ≡ Ok c.in-Ok.head) 0 k n new) c.new-lines.ensures.rest c.in-Ok.ensures.ok in
    all_answers c.args.through.now (IsWholeAudit c.args.through.now) known n new c.in-Ok.head c.audited.result took c.audited.ensures.answer

pub returns-in-Ok-clause-fault : goal.returns-in-Ok-clause-fault
returns-in-Ok-clause-fault g c =
    let known = g.R.Read.remaining c.args.reader in
    let new = c.head_in_text.new.lines.rest in
    let n = c.head_in_text.new.lines.number in
    let took = subst (λ (k : Option (List ℕ)). TakesTold (λ line. head_of_line c.args.through.now line ≡ Ok c.in-Ok.head) 0 k n new) c.new-lines.ensures.rest c.in-Ok.ensures.ok in
    all_faults c.args.through.now (IsWholeFault c.args.through.now) known n new c.in-Ok.head c.audited.result took c.audited.ensures.fault
