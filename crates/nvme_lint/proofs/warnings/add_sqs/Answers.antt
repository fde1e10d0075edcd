-- The next region has a new address, so that it is added, and it is the next step of the history.
use Rattle.std.proofs.Common.{rules, ◌≡◌, ◌<◌, ◌≤◌, [], ◌∷◌, ◌++◌, length, get_or, take, Some, sym, ap, ◌∙◌, subst, arith}
use Rattle.std.proofs.lemmas.List.{drop_all, length-map, length-take-le}
use Rattle.nvme_admin.specs.declared.bounds.TheConstants.{MAX_REGIONS}
use Rattle.nvme_admin.specs.History.{TableHistory, Submission, RegionAdded}
use Rattle.nvme_admin.specs.Standing.{TableView, StandsAt, region_fault}
use Rattle.nvme_workload.specs.declared.plan.SqPlan.{SqPlan}
use Rattle.nvme_lint.specs.Warnings.{with_sqs}
use Rattle.nvme_lint.specs.inside.Regions.{sq_site}
use Rattle.nvme_lint.proofs.Regions.{not_refused, sites_more, sq_is_new, sq_next, sq_none_left}
use Rattle.nvme_lint.proofs.warnings.add_sqs.Goals as goal

pub unreachable-requires : goal.unreachable-requires
unreachable-requires c =
    let i = c.loop-plan.plan-index in
    let v = c.loop-plan.table in
    let inv = c.loop-plan.invariant in
    let x = c.plan-item.result in
    let there : i < length c.args.plans.now = search rules in
    let number : length v.sq_regions ≡ i = ap (λ rs. length rs) inv.sqs ∙ length-map (take i c.args.plans.now) sq_site ∙ length-take-le i c.args.plans.now (omega (arith, there)) in
    let room : length v.sq_regions ≡ MAX_REGIONS → ⊥ = λ full. omega (arith, full, number, there, c.requires.few.1) in
    not_refused v v.sq_regions (get_or c.args.plans.now i x).address (get_or c.args.plans.now i x).slots
    (sq_is_new v c.args.plans.now i x there inv.sqs inv.cqs c.requires.regions.apart) room (c.requires.regions.slots i x there) c.in-Err.field-0
    (subst (λ (y : SqPlan). region_fault v v.sq_regions y.address y.slots ≡ Some c.in-Err.field-0) c.plan-item.is c.in-Err.ensures.refused)

pub loop-plan-preserved : goal.loop-plan-preserved
loop-plan-preserved c =
    let i = c.loop-plan.plan-index in
    let inv = c.loop-plan.invariant in
    let x = c.plan-item.result in
    let there : i < length c.args.plans.now = search rules in
    let more : c.add_sq_region.new.self.sq_regions ≡ c.loop-plan.table.sq_regions ++ sq_site (get_or c.args.plans.now i x) ∷ [] = c.in-Ok.ensures.regions ∙ ap (λ (y : SqPlan). c.loop-plan.table.sq_regions ++ sq_site y ∷ []) c.plan-item.is in
    record {
      sqs = sites_more sq_site c.args.plans.now i x c.loop-plan.table.sq_regions c.add_sq_region.new.self.sq_regions there inv.sqs more;
      cqs = ap (λ (t : TableView). t.cq_regions) c.in-Ok.ensures.rest ∙ inv.cqs;
      stands = λ start h st.
          let was = inv.stands start h st in
          let step : StandsAt start c.add_sq_region.new.self (RegionAdded Submission (get_or c.args.plans.now i x).address (get_or c.args.plans.now i x).slots ∷ was.0) =
          subst (λ (y : SqPlan). StandsAt start c.add_sq_region.new.self (RegionAdded Submission y.address y.slots ∷ was.0)) c.plan-item.is (c.in-Ok.ensures.stands start was.0 was.1) in
          (RegionAdded Submission (get_or c.args.plans.now i x).address (get_or c.args.plans.now i x).slots ∷ was.0, step, sq_next was.0 c.args.plans.now i x there ∙ was.2);
    }

pub returns-clause-stands : goal.returns-clause-stands
returns-clause-stands c = λ start h st.
    let was = c.loop-plan.invariant.stands start h st in
    let over : length c.args.plans.now ≤ c.loop-plan.plan-index = search rules in
    subst (λ (g : TableHistory). StandsAt start c.loop-plan.table g)
    (sym (sq_none_left was.0) ∙ sym (ap (λ rs. with_sqs was.0 rs) (drop_all c.loop-plan.plan-index c.args.plans.now over)) ∙ was.2) was.1
