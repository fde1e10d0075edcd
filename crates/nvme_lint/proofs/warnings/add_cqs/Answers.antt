-- The next region has a new address, so that it is added, and it is the next step of the history.
use Rattle.std.proofs.Common.{rules, ◌≡◌, ◌<◌, ◌≤◌, [], ◌∷◌, ◌++◌, length, get_or, take, sym, ap, ◌∙◌, subst, arith}
use Rattle.std.proofs.lemmas.List.{drop_all, length-map, length-take-le}
use Rattle.nvme_admin.specs.declared.bounds.TheConstants.{MAX_REGIONS}
use Rattle.nvme_admin.specs.History.{TableHistory, Completion, RegionAdded}
use Rattle.nvme_admin.specs.Standing.{TableView, StandsAt}
use Rattle.nvme_lint.specs.Warnings.{with_cqs}
use Rattle.nvme_lint.specs.inside.Regions.{cq_site}
use Rattle.nvme_lint.proofs.Regions.{no_cq, not_refused, sites_more, cq_is_new, cq_next, cq_none_left}
use Rattle.nvme_lint.proofs.warnings.add_cqs.Goals as goal

pub unreachable-requires : goal.unreachable-requires
unreachable-requires c =
    let i = c.loop-plan.plan-index in
    let v = c.loop-plan.table in
    let inv = c.loop-plan.invariant in
    let there : i < length c.args.plans.now = search rules in
    let number : length v.cq_regions ≡ i = ap (λ rs. length rs) inv.cqs ∙ length-map (take i c.args.plans.now) cq_site ∙ length-take-le i c.args.plans.now (omega (arith, there)) in
    let room : length v.cq_regions ≡ MAX_REGIONS → ⊥ = λ full. omega (arith, full, number, there, c.requires.few.1) in
    not_refused v v.cq_regions (get_or c.args.plans.now i no_cq).address (get_or c.args.plans.now i no_cq).slots
    (cq_is_new v c.args.sqs.now c.args.plans.now i there inv.sqs inv.cqs c.requires.apart) room (c.requires.slots i no_cq there) c.in-Err.field-0 c.in-Err.ensures.refused

pub loop-plan-preserved : goal.loop-plan-preserved
loop-plan-preserved c =
    let i = c.loop-plan.plan-index in
    let inv = c.loop-plan.invariant in
    let there : i < length c.args.plans.now = search rules in
    let more : c.add_cq_region.new.self.cq_regions ≡ c.loop-plan.table.cq_regions ++ cq_site (get_or c.args.plans.now i no_cq) ∷ [] = c.in-Ok.ensures.regions in
    record {
      cqs = sites_more cq_site c.args.plans.now i no_cq c.loop-plan.table.cq_regions c.add_cq_region.new.self.cq_regions there inv.cqs more;
      sqs = ap (λ (t : TableView). t.sq_regions) c.in-Ok.ensures.rest ∙ inv.sqs;
      stands = λ start h st.
          let was = inv.stands start h st in
          let step : StandsAt start c.add_cq_region.new.self (RegionAdded Completion (get_or c.args.plans.now i no_cq).address (get_or c.args.plans.now i no_cq).slots ∷ was.0) = c.in-Ok.ensures.stands start was.0 was.1 in
          (RegionAdded Completion (get_or c.args.plans.now i no_cq).address (get_or c.args.plans.now i no_cq).slots ∷ was.0, step, cq_next was.0 c.args.plans.now i there ∙ was.2);
    }

pub returns : goal.returns
returns c = record {
  stands = λ start h st.
      let was = c.loop-plan.invariant.stands start h st in
      let over : length c.args.plans.now ≤ c.loop-plan.plan-index = search rules in
      subst (λ (g : TableHistory). StandsAt start c.loop-plan.table g)
      (sym (cq_none_left was.0) ∙ sym (ap (λ rs. with_cqs was.0 rs) (drop_all c.loop-plan.plan-index c.args.plans.now over)) ∙ was.2) was.1;
}
