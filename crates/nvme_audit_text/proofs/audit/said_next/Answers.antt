use Rattle.std.proofs.Common.{◌≡◌, rules}
use Rattle.nvme_lines.specs.Lines.{TakesTold}
use Rattle.nvme_audit_text.specs.Format.{said_of_line}
use Rattle.nvme_audit_text.specs.Readings.{Fails}
use Rattle.nvme_audit_text.proofs.audit.said_next.Goals as goal

pub returns-in-Err-clause-err : goal.returns-in-Err-clause-err
returns-in-Err-clause-err g c =
    let line = c.told_line.new.lines.latest in
    let took : TakesTold (λ l. l ≡ line) c.args.lines.now.number c.args.lines.now.rest c.told_line.new.lines.number c.told_line.new.lines.rest = search rules in
    let fails : Fails c.in-Err.fault (said_of_line c.args.through.now c.args.head.now line) = search rules in
    c.event_fault.ensures c.args.through.now c.args.head.now c.args.lines.now.rest c.args.lines.now.number took fails
