use Rattle.std.proofs.Common.{◌≡◌, ◌∙◌, ℕ, Some, None, false, slice_get, sym, ap}
use Rattle.nvme_admin.specs.declared.region.Region.{Region}
use Rattle.nvme_admin.specs.Layout.{view_of}
use Rattle.nvme_admin.specs.Standing.{TableView, sq_renewed, sq_renewed_as}
use Rattle.nvme_admin.proofs.PlaceLemmas.{flags-set, region-found, region-missing, sq-renewed}
use Rattle.nvme_admin.proofs.fields.TableFields.renew_sq_region.Goals as goal

pub returns-in-Some-clause-renewed : goal.returns-in-Some-clause-renewed
returns-in-Some-clause-renewed c =
    let v : TableView = view_of c.args.self.now in
    let k : ℕ = c.from-number.result in
    let r : Region = c.in-Some.field-0.now in
    let lookup = c.in-Some.ensures.lookup in
    let here : slice_get v.sq_regions k ≡ Some r =
    region-found c.as_slice.result.now v.sq_regions k r c.as_slice.ensures.regions lookup.0
    lookup.1 in
    (λ i. record v { sq_regions = c.put.ensures i; sq_used = (flags-set c.args.self.now.sq_used k c.of.result false c.of.ensures) i })
    ∙ sq-renewed v k c.args.slots r c.if-number-eq0.false here
    ∙ ap (λ (n : ℕ). sq_renewed v n c.args.slots) c.from-number.ensures

pub returns-in_default-clause-renewed : goal.returns-in_default-clause-renewed
returns-in_default-clause-renewed c =
    let v : TableView = view_of c.args.self.now in
    let k : ℕ = c.from-number.result in
    let none : slice_get v.sq_regions k ≡ None = region-missing c.as_slice.result.now v.sq_regions k c.as_slice.ensures.regions c.in_default.ensures.lookup.0 in
    sym (ap (sq_renewed_as v k c.args.slots) none) ∙ ap (λ (n : ℕ). sq_renewed v n c.args.slots) c.from-number.ensures
