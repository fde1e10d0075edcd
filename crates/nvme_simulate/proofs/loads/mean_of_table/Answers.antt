use Rattle.std.proofs.Common.{◌≡◌, ℕ, ◌-◌, ◌+◌, ◌*◌, ◌^◌, ◌<◌, ◌≤◌, min, List, length, slice_get, unwrap_or, ap, sym, subst, ◌∙◌, arith}
use Rattle.std.proofs.lemmas.List.{take_all}
use Rattle.nvme_clock.specs.declared.quantiles.Quantiles.{Quantiles}
use Rattle.nvme_clock.specs.Quantiles.{values_of}
use Rattle.nvme_simulate.specs.Loads.{mean_between}
use Rattle.nvme_simulate.proofs.Steps.{both_ends_is, doubled, doubled_more, mean_below, quotient_is}
use Rattle.nvme_simulate.proofs.loads.mean_of_table.Goals as goal
use Rattle.nvme_simulate.proofs.loads.mean_of_table.Goals.{After-part}

-- the greatest numbers of 64 bits, and of 128
abbrev longest : ℕ
longest = 0xffff_ffff_ffff_ffff

abbrev greatest : ℕ
greatest = 0xffff_ffff_ffff_ffff_ffff_ffff_ffff_ffff

-- a table has fewer than 2^63 values
few_values : (q : Quantiles) (xs : List ℕ) → xs ≡ values_of q → length xs < 2 ^ 63
few_values q xs are = omega (arith, ap length are, q.values.ok.0, q.values.ok.1, q.values.small)

pub loop-value-preserved : goal.loop-value-preserved
loop-value-preserved c =
    let values = c.values-values.result.now in
    let within : c.loop-value.value-index < length values = omega arith in
    let few : length values < 2 ^ 63 = few_values c.args.table.now values c.values-values.ensures.value in
    let fits : length values * (longest * 2) ≤ greatest = omega arith in
    record {
      so_far = doubled_more greatest longest c.loop-value.value-index values c.loop-value.twice c.saturating_mul.result c.saturating_add-twice.result within
          (λ k. omega (arith, c.loop-value.invariant.each k)) fits c.loop-value.invariant.so_far (c.saturating_mul.ensures ∙ ap (λ v. min (v * 2) greatest) c.from.ensures) c.saturating_add-twice.ensures;
      each = c.loop-value.invariant.each;
    }

-- what is returned, as it is defined
is_mean : (c : After-part) → c.part.result ≡ mean_between c.values-values.result.now
is_mean c =
    let values = c.values-values.result.now in
    let few : length values < 2 ^ 63 = few_values c.args.table.now values c.values-values.ensures.value in
    let fits : length values * (longest * 2) ≤ greatest = omega arith in
    let short : length values * 2 ≤ greatest = omega arith in
    let some : 0 < length values = omega (arith, c.values-values.ensures.table.long) in
    let first_is : c.from-2.result ≡ unwrap_or (slice_get values 0) 0 = c.from-2.ensures ∙ c.unwrap_or-first.ensures ∙ ap (λ o. unwrap_or o 0) (c.copied.ensures ∙ c.first.ensures.value) in
    let last_is : c.from-3.result ≡ unwrap_or (slice_get values (length values - 1)) 0 =
    c.from-3.ensures ∙ c.unwrap_or-last.ensures ∙ ap (λ o. unwrap_or o 0) (c.copied-2.ensures ∙ c.last.ensures.value) in
    let behind : length values ≤ c.loop-value.value-index = omega arith in
    let whole : c.loop-value.twice ≡ doubled values = c.loop-value.invariant.so_far ∙ ap doubled (take_all c.loop-value.value-index values behind) in
    quotient_is greatest longest values c.from-2.result c.from-3.result c.saturating_add.result c.saturating_sub-inner.result c.saturating_mul-2.result c.part.result
    (λ k. omega (arith, c.loop-value.invariant.each k)) fits short (both_ends_is values c.from-2.result c.from-3.result some first_is last_is) c.saturating_add.ensures
    (c.saturating_sub-inner.ensures ∙ ap (λ t. t - c.saturating_add.result) whole) (c.saturating_mul-2.ensures ∙ ap (λ n. min (n * 2) greatest) c.saturating_sub-steps.ensures) c.part.ensures

pub returns-clause-value : goal.returns-clause-value
returns-clause-value c = is_mean c ∙ ap mean_between c.values-values.ensures.value

pub returns-clause-below : goal.returns-clause-below
returns-clause-below c =
    let P : ℕ → Type 0 = λ n. n < longest + 1 in
    subst P (sym (is_mean c)) (mean_below longest c.values-values.result.now c.values-values.ensures.table.long (λ k. omega (arith, c.loop-value.invariant.each k)))
