use Rattle.std.proofs.Common.{◌≡◌, ◌∷◌, [], ◌++◌, sym, ap, ◌∙◌, rules, arith, append_assoc}
use Rattle.std.specs.Vec.Iter.{into_iter_items}
use Rattle.std.proofs.lemmas.List.{length-append}
use Rattle.nvme_runs.proofs.Rings.{rings_more}
use Rattle.nvme_runs.proofs.runs.setup.sq_rings.Goals as goal

pub loop-plan-preserved : goal.loop-plan-preserved
loop-plan-preserved c =
    let inv = c.loop-plan.invariant in
    let yielded = c.loop-plan.yielded in
    let next : into_iter_items c.loop-plan.plan-iterator ≡ c.in-Some.plan ∷ into_iter_items c.next.new.self = search rules in
    let grown = length-append yielded (c.in-Some.plan ∷ []) in (
      tt,
      tt,
      append_assoc yielded (c.in-Some.plan ∷ []) _ ∙ ap (λ xs. yielded ++ xs) (sym next) ∙ inv.2,
      omega (arith, grown, c.push_reserved.ensures.len, inv.3),
      c.push_reserved.ensures.capacity ∙ inv.4,
      rings_more yielded c.loop-plan.rings.items c.push_reserved.new.self.items c.in-Some.plan c.in_ok-sq_ring.field-0 inv.5 c.in_ok-sq_ring.ensures c.push_reserved.ensures.items,
    )
