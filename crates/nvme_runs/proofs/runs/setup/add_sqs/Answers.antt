use Rattle.std.proofs.Common.{◌≡◌, ℕ, [], ◌∷◌, ◌++◌, map, sym, ap, ◌∙◌, subst, rules, arith, append_assoc}
use Rattle.std.specs.List.{All}
use Rattle.std.specs.Vec.Iter.{into_iter_items}
use Rattle.std.proofs.lemmas.List.{append-nil, length-append}
use Rattle.std.proofs.lemmas.List.Elements.{All-head, All-tail}
use Rattle.nvme_entry.specs.declared.completion.Cqe.{Cqe}
use Rattle.nvme_lane.specs.View.{PutView}
use Rattle.nvme_threads.specs.declared.loaded_rings.SqEnds.{SqEnds}
use Rattle.nvme_runs.specs.inside.Prepared.{IsFreshRing}
use Rattle.nvme_runs.proofs.Adding.{is_new, apart_at, ring_addresses, sqs_more}
use Rattle.nvme_runs.proofs.runs.setup.add_sqs.Goals as goal

pub add_sq-requires-clause-apart : goal.add_sq-requires-clause-apart
add_sq-requires-clause-apart c =
    let inv = c.loop-ends.invariant in
    let address : SqEnds → ℕ = λ e. e.get.address in
    let v = c.loop-ends.front in
    let rest = into_iter_items c.next.new.self in
    let next : into_iter_items c.loop-ends.ends-iterator ≡ c.in-Some.ends ∷ rest = search rules in
    let all : c.loop-ends.yielded ++ c.in-Some.ends ∷ rest ≡ c.args.rings.items = ap (λ xs. c.loop-ends.yielded ++ xs) (sym next) ∙ inv.2 in
    is_new v (map address c.loop-ends.yielded) (map address rest) c.in-Some.ends.get.address
    ((λ i. ring_addresses v c.loop-ends.yielded inv.5.gets i ++ map (λ (p : PutView Cqe). p.address) ((inv.5.puts ∙ c.requires.first.1) i))
    ∙ append-nil (map address c.loop-ends.yielded))
    (apart_at address [] c.loop-ends.yielded rest c.args.rings.items c.in-Some.ends all c.requires.apart)

pub add_sq-requires-clause-pair : goal.add_sq-requires-clause-pair
add_sq-requires-clause-pair c =
    let rest = into_iter_items c.next.new.self in
    let next : into_iter_items c.loop-ends.ends-iterator ≡ c.in-Some.ends ∷ rest = search rules in
    (All-head IsFreshRing c.in-Some.ends rest (subst (λ xs. All IsFreshRing xs) next c.loop-ends.invariant.6)).pair

pub add_sq-requires-clause-nothing_got : goal.add_sq-requires-clause-nothing_got
add_sq-requires-clause-nothing_got c =
    let rest = into_iter_items c.next.new.self in
    let next : into_iter_items c.loop-ends.ends-iterator ≡ c.in-Some.ends ∷ rest = search rules in
    (All-head IsFreshRing c.in-Some.ends rest (subst (λ xs. All IsFreshRing xs) next c.loop-ends.invariant.6)).nothing_got

pub loop-ends-preserved : goal.loop-ends-preserved
loop-ends-preserved c =
    let inv = c.loop-ends.invariant in
    let yielded = c.loop-ends.yielded in
    let rest = into_iter_items c.next.new.self in
    let next : into_iter_items c.loop-ends.ends-iterator ≡ c.in-Some.ends ∷ rest = search rules in
    let grown = length-append yielded (c.in-Some.ends ∷ []) in (
      tt,
      tt,
      append_assoc yielded (c.in-Some.ends ∷ []) _ ∙ ap (λ xs. yielded ++ xs) (sym next) ∙ inv.2,
      omega (arith, grown, c.push_reserved.ensures.len, inv.3),
      c.push_reserved.ensures.capacity ∙ inv.4,
      sqs_more c.args.front.now c.loop-ends.front c.add_sq.new.front yielded c.in-Some.ends c.loop-ends.feeders.items c.push_reserved.new.self.items c.in_ok-add_sq.field-0
          inv.5 c.in_ok-add_sq.ensures c.push_reserved.ensures.items,
      All-tail IsFreshRing c.in-Some.ends rest (subst (λ xs. All IsFreshRing xs) next inv.6),
    )
