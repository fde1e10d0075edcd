use Rattle.std.proofs.Common.{◌≡◌, ℕ, List, [], ◌∷◌, ◌++◌, map, sym, ap, ◌∙◌, rules, arith, append_assoc}
use Rattle.std.specs.Vec.Iter.{into_iter_items}
use Rattle.std.proofs.lemmas.List.{length-append}
use Rattle.nvme_entry.specs.declared.submission.Sqe.{Sqe}
use Rattle.nvme_lane.specs.View.{GetView}
use Rattle.nvme_workload.specs.declared.plan.CqPlan.{CqPlan}
use Rattle.nvme_runs.proofs.Adding.{is_new, apart_at, cq_addresses, cqs_more}
use Rattle.nvme_runs.proofs.runs.setup.add_cqs.Goals as goal

pub add_cq-requires-clause-apart : goal.add_cq-requires-clause-apart
add_cq-requires-clause-apart c =
    let inv = c.loop-plan.invariant in
    let address : CqPlan → ℕ = λ p. p.address in
    let got : List (GetView Sqe) → List ℕ = λ gs. map (λ (g : GetView Sqe). g.address) gs in
    let v = c.loop-plan.front in
    let rest = into_iter_items c.next.new.self in
    let next : into_iter_items c.loop-plan.plan-iterator ≡ c.in-Some.plan ∷ rest = search rules in
    let all : c.loop-plan.yielded ++ c.in-Some.plan ∷ rest ≡ c.args.plans.items = ap (λ xs. c.loop-plan.yielded ++ xs) (sym next) ∙ inv.2 in
    is_new v (got c.args.front.now.gets ++ map address c.loop-plan.yielded) (map address rest) c.in-Some.plan.address
    (λ i. got (inv.5.gets i) ++ cq_addresses v c.loop-plan.yielded inv.5.sites i)
    (apart_at address (got c.args.front.now.gets) c.loop-plan.yielded rest c.args.plans.items c.in-Some.plan all c.requires.apart)

pub loop-plan-preserved : goal.loop-plan-preserved
loop-plan-preserved c =
    let inv = c.loop-plan.invariant in
    let yielded = c.loop-plan.yielded in
    let next : into_iter_items c.loop-plan.plan-iterator ≡ c.in-Some.plan ∷ into_iter_items c.next.new.self = search rules in
    let grown = length-append yielded (c.in-Some.plan ∷ []) in (
      tt,
      tt,
      append_assoc yielded (c.in-Some.plan ∷ []) _ ∙ ap (λ xs. yielded ++ xs) (sym next) ∙ inv.2,
      omega (arith, grown, c.push_reserved.ensures.len, inv.3),
      c.push_reserved.ensures.capacity ∙ inv.4,
      cqs_more c.args.front.now c.loop-plan.front c.add_cq.new.front yielded c.in-Some.plan c.loop-plan.drainers.items c.push_reserved.new.self.items c.in_ok-add_cq.field-0
          inv.5 c.in_ok-add_cq.ensures.added c.push_reserved.ensures.items,
    )
