use Rattle.std.proofs.Common.{◌≡◌, ℕ, ◌+◌, List, [], ◌++◌, Option, None, Ok, sym, subst, ◌∙◌, rules}
use Rattle.std.proofs.lemmas.Result.{err_from_is_err_and}
use Rattle.nvme_lines.specs.Lines.{TakesTold, HasNoTold, AreInAll}
use Rattle.nvme_arbiter.specs.History.{History}
use Rattle.nvme_judge.specs.Turns.{picks_in}
use Rattle.nvme_trace.specs.declared.records.Head.{Head as Arbitration}
use Rattle.nvme_audit.specs.declared.event.Event.{Event}
use Rattle.nvme_audit.specs.Lives.{Past}
use Rattle.nvme_audit_text.specs.declared.audit.Finding.{Finding}
use Rattle.nvme_audit_text.specs.Format.{heard_of, said_of_line, event_of_line}
use Rattle.nvme_audit_text.specs.Audits.{added, host_at}
use Rattle.nvme_audit_text.specs.inside.Steps.{AuditsAt, IsFinding, AuditedUpTo, PicksAt, IsUnlawful}
use Rattle.nvme_audit_text.proofs.LineLemmas.{takes_event}
use Rattle.nvme_audit_text.proofs.PickLemmas.{at_some, at_none, allowed_head, allowed_more}
use Rattle.nvme_audit_text.proofs.AuditLemmas.{audited_head, audited_more, audited_all, audited_finding, audited_unlawful, audited_fault, other_fault}
use Rattle.nvme_audit_text.proofs.audit.audited.Goals as goal

pub loop-init : goal.loop-init
loop-init g c = λ text t. (
  audited_head c.args.through.now text c.args.lines.now.number c.args.lines.now.rest c.args.head.now c.new-auditor.result t c.new-auditor.ensures.stands c.new-auditor.ensures.asked,
  allowed_head c.args.through.now text c.args.lines.now.number c.args.lines.now.rest c.args.head.now c.new-picks.result t (subst (λ (a : Arbitration). PicksAt a [] c.new-picks.result) c.arbitration_of.ensures c.new-picks.ensures),
)

pub returns-in_err-said-clause-fault : goal.returns-in_err-said-clause-fault
returns-in_err-said-clause-fault g c =
    let p = err_from_is_err_and c.from_residual.result c.from_residual.ensures.1 in
    rw (p.1, p.2) (λ text t. audited_fault c.args.through.now text _ c.loop.lines.number c.args.head.now c.loop.auditor c.loop.picks _ (c.loop.invariant text t).0 (c.loop.invariant text t).1 c.in_err-said.ensures.err)

pub returns-in_default-clause-answer : goal.returns-in_default-clause-answer
returns-in_default-clause-answer g c = λ text t.
    let none : HasNoTold c.loop.lines.number c.loop.lines.rest = search rules in
    let all : AreInAll c.loop.lines.number c.loop.lines.rest c.answer.result.lines = search rules in
    audited_all c.args.through.now text c.loop.lines.rest c.loop.lines.number c.args.head.now c.loop.auditor c.loop.picks c.answer.result (c.loop.invariant text t).0 (c.loop.invariant text t).1 none all (c.answer.ensures.picks ∙ c.judged.ensures) c.answer.ensures.broken c.answer.ensures.host c.answer.ensures.told c.answer.ensures.asked

pub returns-in_err-finding-clause-fault : goal.returns-in_err-finding-clause-fault
returns-in_err-finding-clause-fault g c =
    let p = err_from_is_err_and c.from_residual-in_err-finding.result c.from_residual-in_err-finding.ensures.1 in
    rw (p.1, p.2) (λ text t. other_fault c.args.through.now text _ c.in_err-finding.ensures.other)

pub returns-in_err-unlawful-clause-fault : goal.returns-in_err-unlawful-clause-fault
returns-in_err-unlawful-clause-fault g c =
    let p = err_from_is_err_and c.from_residual-in_err-unlawful.result c.from_residual-in_err-unlawful.ensures.1 in
    rw (p.1, p.2) (λ text t. other_fault c.args.through.now text _ c.in_err-unlawful.ensures.other)

pub returns-in-Some-2-clause-answer : goal.returns-in-Some-2-clause-answer
returns-in-Some-2-clause-answer g c = λ text t.
    let m = c.loop.lines.number in
    let n = c.said_next.new.lines.number in
    let view = c.args.through.now in
    let head = c.args.head.now in
    let heard : TakesTold (λ line. said_of_line view head line ≡ Ok (heard_of c.in-Some.said)) m c.loop.lines.rest n c.said_next.new.lines.rest = search rules in
    let took : TakesTold (λ line. event_of_line view head line ≡ Ok c.event.result) m c.loop.lines.rest n c.said_next.new.lines.rest =
    subst (λ (s : Option Event). TakesTold (λ line. event_of_line view head line ≡ Ok s) m c.loop.lines.rest n c.said_next.new.lines.rest) (sym c.event.ensures) (takes_event view head (heard_of c.in-Some.said) m n c.loop.lines.rest c.said_next.new.lines.rest heard) in
    audited_finding view text m c.loop.lines.rest n c.said_next.new.lines.rest head c.loop.auditor c.note.new.self c.loop.picks c.event.result c.in-Some-2.finding c.answer-in-Some-2.result (c.loop.invariant text t).0 (c.loop.invariant text t).1 took
    (λ (past : Past) (found : List Finding) (at : AuditsAt head.start past found c.loop.auditor). subst (λ (k : ℕ). IsFinding head.start past k c.event.result c.in-Some-2.finding × AuditsAt head.start past found c.note.new.self) c.number-in-loop.ensures
    (at_some _ _ c.in_ok-finding.field-0 c.in-Some-2.finding (c.in_ok-finding.ensures.taken head.start past found at) c.in-Some-2.is))
    (c.in_ok-finding.ensures.counted head.start)
    (c.answer-in-Some-2.ensures.lines ∙ c.number-in-Some-2.ensures) (c.answer-in-Some-2.ensures.picks ∙ c.judged-in-Some-2.ensures) c.answer-in-Some-2.ensures.broken c.answer-in-Some-2.ensures.host c.answer-in-Some-2.ensures.told c.answer-in-Some-2.ensures.asked

pub returns-in-Some-3-clause-answer : goal.returns-in-Some-3-clause-answer
returns-in-Some-3-clause-answer g c = λ text t.
    let m = c.loop.lines.number in
    let n = c.said_next.new.lines.number in
    let view = c.args.through.now in
    let head = c.args.head.now in
    let heard : TakesTold (λ line. said_of_line view head line ≡ Ok (heard_of c.in-Some.said)) m c.loop.lines.rest n c.said_next.new.lines.rest = search rules in
    let took : TakesTold (λ line. event_of_line view head line ≡ Ok c.event.result) m c.loop.lines.rest n c.said_next.new.lines.rest =
    subst (λ (s : Option Event). TakesTold (λ line. event_of_line view head line ≡ Ok s) m c.loop.lines.rest n c.said_next.new.lines.rest) (sym c.event.ensures) (takes_event view head (heard_of c.in-Some.said) m n c.loop.lines.rest c.said_next.new.lines.rest heard) in
    let none : c.in_ok-finding.field-0 ≡ None = search rules in
    let after : AuditedUpTo view text c.said_next.new.lines.rest n head c.note.new.self = audited_more view text m c.loop.lines.rest n c.said_next.new.lines.rest head c.loop.auditor c.note.new.self c.event.result (c.loop.invariant text t).0 took
    (λ (past : Past) (found : List Finding) (at : AuditsAt head.start past found c.loop.auditor). subst (λ (k : ℕ). AuditsAt head.start (added c.event.result past) (found ++ host_at head.start past k c.event.result) c.note.new.self) c.number-in-loop.ensures
    (at_none _ _ c.in_ok-finding.field-0 (c.in_ok-finding.ensures.taken head.start past found at) none))
    (c.in_ok-finding.ensures.counted head.start) in
    audited_unlawful view text m c.loop.lines.rest n c.said_next.new.lines.rest head c.note.new.self c.loop.picks c.note-in-loop.new.self (heard_of c.in-Some.said) c.in-Some-3.unlawful c.answer-in-Some-3.result after (c.loop.invariant text t).1 heard
    (λ (arbitration : Arbitration) (past : History) (at : PicksAt arbitration past c.loop.picks). subst (λ (k : ℕ). IsUnlawful arbitration past k (heard_of c.in-Some.said) c.in-Some-3.unlawful × (c.note-in-loop.new.self.judged ≡ picks_in past + 1)) c.number-in-loop-2.ensures
    (at_some _ _ c.in_ok-unlawful.field-0 c.in-Some-3.unlawful (c.in_ok-unlawful.ensures.taken arbitration past at) c.in-Some-3.is))
    (c.answer-in-Some-3.ensures.lines ∙ c.number-in-Some-3.ensures) (c.answer-in-Some-3.ensures.picks ∙ c.judged-in-Some-3.ensures) c.answer-in-Some-3.ensures.broken c.answer-in-Some-3.ensures.host c.answer-in-Some-3.ensures.told c.answer-in-Some-3.ensures.asked

pub loop-preserved : goal.loop-preserved
loop-preserved g c = λ text t.
    let m = c.loop.lines.number in
    let n = c.said_next.new.lines.number in
    let view = c.args.through.now in
    let head = c.args.head.now in
    let heard : TakesTold (λ line. said_of_line view head line ≡ Ok (heard_of c.in-Some.said)) m c.loop.lines.rest n c.said_next.new.lines.rest = search rules in
    let took : TakesTold (λ line. event_of_line view head line ≡ Ok c.event.result) m c.loop.lines.rest n c.said_next.new.lines.rest =
    subst (λ (s : Option Event). TakesTold (λ line. event_of_line view head line ≡ Ok s) m c.loop.lines.rest n c.said_next.new.lines.rest) (sym c.event.ensures) (takes_event view head (heard_of c.in-Some.said) m n c.loop.lines.rest c.said_next.new.lines.rest heard) in
    let none : c.in_ok-finding.field-0 ≡ None = search rules in
    let lawful : c.in_ok-unlawful.field-0 ≡ None = search rules in (
      audited_more view text m c.loop.lines.rest n c.said_next.new.lines.rest head c.loop.auditor c.note.new.self c.event.result (c.loop.invariant text t).0 took
          (λ (past : Past) (found : List Finding) (at : AuditsAt head.start past found c.loop.auditor). subst (λ (k : ℕ). AuditsAt head.start (added c.event.result past) (found ++ host_at head.start past k c.event.result) c.note.new.self) c.number-in-loop.ensures
          (at_none _ _ c.in_ok-finding.field-0 (c.in_ok-finding.ensures.taken head.start past found at) none))
          (c.in_ok-finding.ensures.counted head.start),
      allowed_more view text m c.loop.lines.rest n c.said_next.new.lines.rest head c.loop.picks c.note-in-loop.new.self (heard_of c.in-Some.said) (c.loop.invariant text t).1 heard
          (λ (arbitration : Arbitration) (past : History) (at : PicksAt arbitration past c.loop.picks). at_none _ _ c.in_ok-unlawful.field-0 (c.in_ok-unlawful.ensures.taken arbitration past at) lawful),
    )
