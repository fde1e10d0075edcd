use Rattle.std.proofs.Common.{◌≡◌, ℕ, List, Option, sym, subst, rules}
use Rattle.nvme_lines.specs.Lines.{TakesTold}
use Rattle.nvme_trace.specs.Format.{event_by}
use Rattle.nvme_trace.specs.Readings.{Fails}
use Rattle.nvme_trace.proofs.trace.Trace.event_by.Goals as goal
use Rattle.nvme_trace.proofs.trace.Trace.event_by.Goals.{in-Ok, in-Err}

pub returns-clause-err : goal.returns-clause-err
returns-clause-err g c =
    let line : List ℕ = c.next_line.new.lines.latest in
    let m : ℕ = c.args.self.now.number in
    let old : Option (List ℕ) = c.args.self.now.rest in
    let new : Option (List ℕ) = c.next_line.new.lines.rest in
    let took : TakesTold (λ l. l ≡ line) m old c.next_line.new.lines.number new = search rules in
    elim c.match-event_of_line.branch [
      | in-Ok w ↦ rw w.result-is tt
      | in-Err w ↦ (let fails : Fails w.in-Err.fault (event_by c.args.basis line) = search rules in
          let back = sym w.latest-in-Err.ensures in
          let took : TakesTold (λ l. l ≡ line) m old w.number.result new = subst (λ (n : ℕ). TakesTold (λ l. l ≡ line) m old n new) (sym w.number.ensures) took in
          rw w.result-is (w.event_fault.ensures c.args.basis old m new (subst (λ (x : List ℕ). TakesTold (λ l. l ≡ x) m old w.number.result new) back took)
          (subst (λ (x : List ℕ). Fails w.in-Err.fault (event_by c.args.basis x)) back fails)))
    ]
