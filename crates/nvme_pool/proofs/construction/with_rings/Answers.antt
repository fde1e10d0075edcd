use Rattle.std.proofs.Common.{◌≡◌, ◌++◌, ◌∷◌, [], refl, sym, ◌∙◌, ap, subst, rules, arith, append_assoc}
use Rattle.std.specs.Vec.Iter.{into_iter_items}
use Rattle.std.proofs.Math.ListN.{length-append}
use Rattle.std.proofs.lemmas.List.Elements.{All-push}
use Rattle.std.specs.List.{All}
use Rattle.nvme_lane.specs.Passes.{PassView}
use Rattle.nvme_pool.specs.Pool.{IsFreshEnd}
use Rattle.nvme_pool.specs.Worker.{IsFresh}
use Rattle.nvme_pool.proofs.Beginnings.{all_next, passes_more, rings_more, places_more, pair_place}
use Rattle.nvme_pool.proofs.construction.with_rings.Goals as goal

pub loop-jobs-preserved : goal.loop-jobs-preserved
loop-jobs-preserved c =
    let inv = c.loop-jobs.invariant in
    let yielded = c.loop-jobs.yielded in
    let next : into_iter_items c.loop-jobs.jobs-iterator ≡ c.in-Some.jobs ∷ into_iter_items c.next.new.self = search rules in
    let all : yielded ++ c.in-Some.jobs ∷ into_iter_items c.next.new.self ≡ c.args.pops.items = ap (λ xs. yielded ++ xs) (sym next) ∙ inv.2 in
    let grown = length-append yielded (c.in-Some.jobs ∷ []) in
    let Blank : PassView _ → Type 0 = λ p. p.items ≡ [] in
    let blank = all_next Blank _ _ _ (subst (All Blank) (sym all) c.requires) in
    let ring = c.in_ok-results.ensures in (
      tt,
      tt,
      append_assoc yielded (c.in-Some.jobs ∷ []) _ ∙ all,
      omega (arith, grown, c.push_reserved.ensures.len, inv.3),
      omega (arith, grown, c.push_reserved-in-loop-jobs.ensures.len, inv.4),
      c.push_reserved.ensures.capacity ∙ inv.5,
      c.push_reserved-in-loop-jobs.ensures.capacity ∙ inv.6,
      passes_more _ _ _ _ inv.7 c.push_reserved.ensures.items,
      rings_more _ _ _ _ _ _ inv.8 c.push_reserved.ensures.items c.push_reserved-in-loop-jobs.ensures.items (pair_place c.in_ok-results.results c.in_ok-results.end ring.pair),
      subst (All IsFresh) (sym c.push_reserved.ensures.items) (All-push IsFresh _ _ inv.9 record { taken = blank; executed = blank; given = ring.nothing_sent; kept = refl; all_free = ring.all_free }),
      subst (All IsFreshEnd) (sym c.push_reserved-in-loop-jobs.ensures.items)
          (All-push IsFreshEnd _ _ inv.10 record { got = ring.nothing_got; known = ring.nothing_known; slots = sym ring.pair.2 ∙ ring.slots }),
      places_more _ _ c.in_ok-results.end inv.11 c.push_reserved-in-loop-jobs.ensures.items
          (sym ring.pair.1 ∙ ring.address ∙ omega (arith, inv.3, inv.4, c.loop-jobs.ends.ok)),
    )
