use Rattle.std.proofs.Common.{◌∙◌, ap, arith, sum_by}
use Rattle.std.proofs.lemmas.List.Sums.{sum_by_push}
use Rattle.nvme_lane.specs.Passes.{PassView, parts_of, weight_of}
use Rattle.nvme_lane.proofs.Balances.{learns}
use Rattle.nvme_lane.proofs.teardown.gather.Goals as goal

pub len_as-left-requires-clause-rule : goal.len_as-left-requires-clause-rule
len_as-left-requires-clause-rule g c =
    let items = c.in-Some.ensures.items in
    learns _ _ (omega (
      arith,
      ap parts_of items,
      sum_by_push (λ (p : PassView _). p.parts) c.pop.new.self.items c.in-Some.last,
      ap (λ (p : PassView _). p.parts) c.last.view_is,
    ))

pub returns-clause-shares : goal.returns-clause-shares
returns-clause-shares g c =
    let items = c.in-Some.ensures.items in
    let held = c.len_as-left.ensures.rule.1 in
    record {
      left = held.0;
      number = held.1;
      shares = λ h. omega (
        arith,
        held.2 h,
        c.join_pushes.ensures.put h,
        ap (sum_by h) c.join_pops.ensures.put,
        c.join_pops.ensures.taken h,
        ap (sum_by h) (c.join_pushes.ensures.taken ∙ c.last.invariant.2),
        ap (weight_of h) items,
        sum_by_push (λ (p : PassView _). sum_by h p.items) c.pop.new.self.items c.in-Some.last,
        ap (λ (p : PassView _). sum_by h p.items) c.last.view_is,
      );
    }
