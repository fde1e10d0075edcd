use Rattle.std.proofs.Common.{refl, ap}
use Rattle.nvme_audit.specs.Lawful.{is_broken}
use Rattle.nvme_audit_text.proofs.AuditLemmas.{audits_broken}
use Rattle.nvme_audit_text.proofs.audit.Auditor.take.Goals as goal

pub returns-in-Broken-clause-taken : goal.returns-in-Broken-clause-taken
returns-in-Broken-clause-taken c = λ start past found at.
    let taken = c.in_ok-said.ensures.taken start past at.stands in (
      record { line_is = refl; event_is = refl; said_is = taken.is; facts_are = c.of-facts.ensures start past at.stands; broken = ap is_broken c.in-Broken.is },
      audits_broken start past found c.args.event _ _ c.args.self.now _ _ taken c.in-Broken.is refl refl refl at,
    )
