use Rattle.std.proofs.Common.{◌≡◌, ℕ, List, ◌++◌, Option, Ok, sym, subst, rules}
use Rattle.std.proofs.lemmas.Result.{err_from_is_err_and}
use Rattle.nvme_lines.specs.Lines.{TakesTold, HasNoTold, AreInAll}
use Rattle.nvme_trace.specs.declared.records.Head.{Head as Arbitration}
use Rattle.nvme_audit.specs.declared.event.Event.{Event}
use Rattle.nvme_audit.specs.Lives.{Past}
use Rattle.nvme_audit.specs.Lawful.{is_broken}
use Rattle.nvme_audit_text.specs.declared.audit.Finding.{Finding}
use Rattle.nvme_audit_text.specs.Format.{heard_of, arbitration_heard, said_of_line, event_of_line}
use Rattle.nvme_audit_text.specs.Audits.{added, is_host}
use Rattle.nvme_audit_text.specs.Picks.{arbitration_of, PicksSaid, nothing_said}
use Rattle.nvme_audit_text.specs.WholeAudits.{told_at}
use Rattle.nvme_audit_text.specs.inside.Steps.{GoesOn, PicksGoOn, GoesOnWith}
use Rattle.nvme_audit_text.proofs.LineLemmas.{takes_event}
use Rattle.nvme_audit_text.proofs.PickLemmas.{said_head, said_more}
use Rattle.nvme_audit_text.proofs.WholeLemmas.{judged_head, judged_more, judged_all, judged_fault, other_fault}
use Rattle.nvme_audit_text.proofs.whole.audited.Goals as goal

pub loop-init : goal.loop-init
loop-init g c = λ text t. (
  judged_head c.args.through.now text c.args.lines.now.number c.args.lines.now.rest c.args.head.now c.new-auditor.result t c.new-auditor.ensures,
  said_head c.args.through.now text c.args.lines.now.number c.args.lines.now.rest c.args.head.now c.new-picks.result t (subst (λ (a : Arbitration). PicksGoOn a.mechanism (nothing_said a.settings) c.new-picks.result) c.arbitration_of.ensures c.new-picks.ensures),
)

pub returns-in_err-said-clause-fault : goal.returns-in_err-said-clause-fault
returns-in_err-said-clause-fault g c =
    let p = err_from_is_err_and c.from_residual.result c.from_residual.ensures.1 in
    rw (p.1, p.2) (λ text t. judged_fault c.args.through.now text _ c.loop.lines.number c.args.head.now c.loop.auditor _ (c.loop.invariant text t).0 c.in_err-said.ensures.err)

pub returns-in_default-clause-answer : goal.returns-in_default-clause-answer
returns-in_default-clause-answer g c = λ text t.
    let none : HasNoTold c.loop.lines.number c.loop.lines.rest = search rules in
    let all : AreInAll c.loop.lines.number c.loop.lines.rest c.answer.result.lines = search rules in
    judged_all c.args.through.now text c.loop.lines.rest c.loop.lines.number c.args.head.now c.loop.auditor c.loop.picks c.answer.result (c.loop.invariant text t).0 (c.loop.invariant text t).1 none all c.answer.ensures.unlawful c.answer.ensures.picks c.answer.ensures.broken c.answer.ensures.host c.answer.ensures.asked

pub returns-in_err-note-clause-fault : goal.returns-in_err-note-clause-fault
returns-in_err-note-clause-fault g c =
    let p = err_from_is_err_and c.from_residual-in_err-note.result c.from_residual-in_err-note.ensures.1 in
    rw (p.1, p.2) (λ text t. other_fault c.args.through.now text _ c.in_err-note.ensures.other)

pub returns-in_err-note-2-clause-fault : goal.returns-in_err-note-2-clause-fault
returns-in_err-note-2-clause-fault g c =
    let p = err_from_is_err_and c.from_residual-in_err-note-2.result c.from_residual-in_err-note-2.ensures.1 in
    rw (p.1, p.2) (λ text t. other_fault c.args.through.now text _ c.in_err-note-2.ensures.other)

pub loop-preserved : goal.loop-preserved
loop-preserved g c = λ text t.
    let m = c.loop.lines.number in
    let n = c.said_next.new.lines.number in
    let view = c.args.through.now in
    let head = c.args.head.now in
    let heard : TakesTold (λ line. said_of_line view head line ≡ Ok (heard_of c.in-Some.said)) m c.loop.lines.rest n c.said_next.new.lines.rest = search rules in
    let took : TakesTold (λ line. event_of_line view head line ≡ Ok c.event.result) m c.loop.lines.rest n c.said_next.new.lines.rest =
    subst (λ (s : Option Event). TakesTold (λ line. event_of_line view head line ≡ Ok s) m c.loop.lines.rest n c.said_next.new.lines.rest) (sym c.event.ensures) (takes_event view head (heard_of c.in-Some.said) m n c.loop.lines.rest c.said_next.new.lines.rest heard) in (
      judged_more view text m c.loop.lines.rest n c.said_next.new.lines.rest head c.loop.auditor c.note.new.self c.event.result (c.loop.invariant text t).0 took
          (λ (past : Past) (broken hosts : List Finding) (at : GoesOn head.start past broken hosts c.loop.auditor). subst (λ (k : ℕ). GoesOn head.start (added c.event.result past) (broken ++ told_at is_broken head.start past k c.event.result) (hosts ++ told_at is_host head.start past k c.event.result) c.note.new.self) c.number-in-loop.ensures
          (c.in_ok-note.ensures.taken head.start past broken hosts at)),
      said_more view text m c.loop.lines.rest n c.said_next.new.lines.rest head c.loop.picks c.note-in-loop.new.self (heard_of c.in-Some.said) (c.loop.invariant text t).1 heard
          (λ (told : PicksSaid) (at : PicksGoOn (arbitration_of head).mechanism told c.loop.picks). subst (λ (k : ℕ). GoesOnWith (arbitration_of head).mechanism k (arbitration_heard (heard_of c.in-Some.said)) told c.note-in-loop.new.self) c.number-in-loop-2.ensures
          (c.in_ok-note-2.ensures.taken (arbitration_of head).mechanism told at)),
    )
