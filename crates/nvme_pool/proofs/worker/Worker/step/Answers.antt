use Rattle.std.proofs.Common.{◌≡◌, ◌∙◌, ap, sym, refl, rules, [], ◌∷◌, ◌++◌}
use Rattle.std.proofs.lemmas.List.{append-nil}
use Rattle.std.specs.Prelude.{Some, None}
use Rattle.nvme_pool.specs.Worker.{kept_list}
use Rattle.nvme_pool.proofs.Keeping.{keeps_one, took}
use Rattle.nvme_pool.proofs.worker.Worker.step.Goals as goal

pub invariant_of-self-in-Ok : goal.invariant_of-self-in-Ok
invariant_of-self-in-Ok g c =
    let none : c.self.inside.kept ≡ None = search rules in
    keeps_one _ _ _ _ _ _ c.self.invariant none c.in-Some.ensures.popped c.execute-done.ensures
    ∙ sym c.in-Ok.ensures.sent ∙ sym (append-nil c.put.new.self.sent) ∙ ap (λ k. c.put.new.self.sent ++ kept_list k) (sym none)

pub invariant_of-self-in-Err : goal.invariant_of-self-in-Err
invariant_of-self-in-Err g c =
    let none : c.self.inside.kept ≡ None = search rules in
    keeps_one _ _ _ _ _ _ c.self.invariant none c.in-Some.ensures.popped c.execute-done.ensures
    ∙ ap (λ r. r.sent ++ c.execute-done.result ∷ []) (sym c.in-Err.ensures.unchanged) ∙ ap (λ d. c.put.new.self.sent ++ d ∷ []) (sym c.in-Err.ensures.full)

pub returns-in-Ok-clause-steps : goal.returns-in-Ok-clause-steps
returns-in-Ok-clause-steps g c =
    let none : c.self.inside.kept ≡ None = search rules in
    let popped = c.in-Some.ensures.popped in
    let ran = c.leave.ensures ∙ ap (λ v. g.G.Gate.left v c.in-Some.job.ticket) c.enter.ensures in
    took (λ view ticket. g.G.Gate.left (g.G.Gate.entered view ticket) ticket) _ c.args.self.now _ c.args.gate.now c.leave.new.self c.in-Some.job c.execute-done.result _
    c.self.view_is none c.execute-done.ensures (popped, popped) ran (c.in-Ok.ensures.sent, none, c.in-Ok.ensures.free)

pub returns-in-Ok-clause-accounts : goal.returns-in-Ok-clause-accounts
returns-in-Ok-clause-accounts g c = record { executions = refl; results = invariant_of-self-in-Ok g c }

pub returns-in-Err-clause-steps : goal.returns-in-Err-clause-steps
returns-in-Err-clause-steps g c =
    let none : c.self.inside.kept ≡ None = search rules in
    let none_free : c.self.inside.results.free ≡ 0 = search rules in
    let popped = c.in-Some.ensures.popped in
    let same = c.in-Err.ensures.unchanged in
    let ran = c.leave.ensures ∙ ap (λ v. g.G.Gate.left v c.in-Some.job.ticket) c.enter.ensures in
    took (λ view ticket. g.G.Gate.left (g.G.Gate.entered view ticket) ticket) _ c.args.self.now _ c.args.gate.now c.leave.new.self c.in-Some.job c.execute-done.result _
    c.self.view_is none c.execute-done.ensures (popped, popped) ran (ap (λ r. r.sent) same, ap Some c.in-Err.ensures.full, none_free, ap (λ r. r.free) same ∙ none_free)

pub returns-in-Err-clause-accounts : goal.returns-in-Err-clause-accounts
returns-in-Err-clause-accounts g c = record { executions = refl; results = invariant_of-self-in-Err g c }
