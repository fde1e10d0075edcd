use Rattle.std.proofs.Common.{◌≡◌, ◌++◌, ◌∷◌, [], refl, sym, ◌∙◌, ap, subst, rules, arith, append_assoc}
use Rattle.std.specs.Vec.Iter.{into_iter_items}
use Rattle.std.proofs.Math.ListN.{length-append}
use Rattle.std.proofs.lemmas.List.{map-append, nil_from_length}
use Rattle.std.proofs.lemmas.List.Elements.{All-push}
use Rattle.nvme_pool.specs.Passes.{pass_of, passes_of}
use Rattle.nvme_pool.specs.Worker.{WorkerView, Accounts}
use Rattle.nvme_pool.proofs.Retiring.{settles_next, settles_last, rings_tail}
use Rattle.nvme_pool.proofs.teardown.retire.Goals as goal

pub loop-worker-preserved : goal.loop-worker-preserved
loop-worker-preserved c =
    let inv = c.loop-worker.invariant in
    let w = c.in-Some.worker in
    let yielded = c.loop-worker.yielded in
    let next : into_iter_items c.loop-worker.worker-iterator ≡ c.in-Some.worker ∷ into_iter_items c.next.new.self = search rules in
    let next_end : into_iter_items c.loop-worker.ends ≡ c.in-Some-next.end ∷ into_iter_items c.next-in-loop-worker.new.self = search rules in
    let grown = length-append yielded (w ∷ []) in
    let is = c.worker.view_is in
    let beside = c.beside-rest.ensures in
    let given = ap (λ (v : WorkerView). v.given) (sym is) ∙ sym beside.sent ∙ sym beside.rest ∙ ap (λ xs. xs ++ c.beside-rest.new.get.known) beside.got in (
      tt,
      tt,
      append_assoc yielded (w ∷ []) _ ∙ ap (λ xs. yielded ++ xs) (sym next) ∙ inv.2,
      rings_tail _ _ _ _ _ _ next_end next inv.3,
      omega (arith, grown, c.push_reserved.ensures.len, inv.4),
      c.push_reserved.ensures.capacity ∙ inv.5,
      omega (arith, grown, inv.6, beside.free, beside.few),
      c.push_reserved.ensures.items ∙ ap (λ xs. xs ++ c.worker.inside.jobs ∷ []) inv.7 ∙ ap (λ p. passes_of yielded ++ p ∷ []) (ap pass_of is) ∙ sym (map-append pass_of yielded (w ∷ [])),
      settles_next _ _ _ _ _ _ _ _ _ _ _ next_end next beside.count given inv.8,
      All-push Accounts yielded w inv.9 (subst Accounts is record { executions = refl; results = c.worker.invariant }),
    )

pub returns-clause-results : goal.returns-clause-results
returns-clause-results c =
    let none : into_iter_items c.loop-worker.worker-iterator ≡ [] = nil_from_length _ (omega (arith, c.in-None.ensures.steps.0, c.loop-worker.worker-iterator.rest.ok)) in
    settles_last _ _ _ _ _ none c.loop-worker.invariant.3 c.loop-worker.invariant.8
