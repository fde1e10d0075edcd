use Rattle.std.proofs.Common.{◌≡◌, ℕ, List, Option, Ok, subst}
use Rattle.nvme_lines.specs.Lines.{TakesTold}
use Rattle.nvme_trace.specs.Format.{start_of_line}
use Rattle.nvme_trace.proofs.CheckLemmas.{all_answers, all_faults}
use Rattle.nvme_trace.proofs.verdicts.check_by.Goals as goal

pub returns-in-Ok-clause-answer : goal.returns-in-Ok-clause-answer
returns-in-Ok-clause-answer g c =
    let known = g.R.Read.remaining c.args.reader in
    let new = c.start.new.self.rest in
    let n = c.start.new.self.number in
    let took = subst (λ (k : Option (List ℕ)). TakesTold (λ line. start_of_line line ≡ Ok c.in-Ok.start) 0 k n new) c.new-trace.ensures.rest c.in-Ok.ensures.ok in
    all_answers c.args.basis known n new c.in-Ok.start c.judged.result took c.judged.ensures.answer

pub returns-in-Ok-clause-fault : goal.returns-in-Ok-clause-fault
returns-in-Ok-clause-fault g c =
    let known = g.R.Read.remaining c.args.reader in
    let new = c.start.new.self.rest in
    let n = c.start.new.self.number in
    let took = subst (λ (k : Option (List ℕ)). TakesTold (λ line. start_of_line line ≡ Ok c.in-Ok.start) 0 k n new) c.new-trace.ensures.rest c.in-Ok.ensures.ok in
    all_faults c.args.basis known n new c.in-Ok.start c.judged.result took c.judged.ensures.fault
