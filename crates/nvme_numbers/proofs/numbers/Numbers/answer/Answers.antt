use Rattle.std.proofs.Common.{◌≡◌, ◌∙◌, List, None, ap, length, subst, rules}
use Rattle.std.specs.List.{All}
use Rattle.nvme_numbers.specs.Told.{all_classes, span_of}
use Rattle.nvme_numbers.specs.inside.Unions.{AreClassRows, AreRows, FedAgree, IsClassFed, IsUnionFed, IsUnionRow}
use Rattle.nvme_numbers.specs.declared.answer.RankedQueue.{RankedQueue}
use Rattle.nvme_numbers.proofs.Ranks.{told}
use Rattle.nvme_numbers.proofs.FedUnions.{told_fed}
use Rattle.nvme_numbers.proofs.numbers.Numbers.answer.Goals as goal

pub returns-clause-told : goal.returns-clause-told
returns-clause-told c =
    let span = c.saturating_sub-span.result in
    let coming = c.coming_of-coming.result in
    let all = c.in_ok-all.all in
    let ranked = c.in_ok-ranked.ranked.items in
    let rows = c.in_ok-rows.rows.items in
    let classes = c.in_ok-class_rows.field-0.items in
    let time : span ≡ span_of c.args.self c.args.end = search rules in
    let one : IsUnionRow span all.commands None c.deref.result.now all = c.in_ok-all.ensures.row in
    let each : AreRows coming span all.commands c.deref-2.result.now rows = c.in_ok-rows.ensures in
    let some : AreClassRows coming span all.commands c.deref-3.result.now all_classes classes = c.in_ok-class_rows.ensures in
    told c.args.self c.args.end coming span ranked rows classes all time c.in_ok-ranked.ensures
    (subst (λ (v : List RankedQueue). IsUnionRow span all.commands None v all) c.deref.ensures.value one)
    (subst (λ (v : List RankedQueue). AreRows coming span all.commands v rows) c.deref-2.ensures.value each)
    (subst (λ (v : List RankedQueue). AreClassRows coming span all.commands v all_classes classes) c.deref-3.ensures.value some)

pub returns-clause-fed : goal.returns-clause-fed
returns-clause-fed c events is =
    let span = c.saturating_sub-span.result in
    let coming = c.coming_of-coming.result in
    let all = c.in_ok-all.all in
    let ranked = c.in_ok-ranked.ranked.items in
    let rows = c.in_ok-rows.rows.items in
    let classes = c.in_ok-class_rows.field-0.items in
    let one : IsUnionFed coming None c.deref.result.now all = c.in_ok-all.ensures.fed in
    let each : AreRows coming span all.commands c.deref-2.result.now rows = c.in_ok-rows.ensures in
    let some : AreClassRows coming span all.commands c.deref-3.result.now all_classes classes = c.in_ok-class_rows.ensures in
    told_fed events c.args.self coming ranked rows classes all c.coming_of-coming.ensures is c.in_ok-ranked.ensures
    (subst (λ (v : List RankedQueue). IsUnionFed coming None v all) c.deref.ensures.value one)
    (each.count ∙ ap (λ (v : List RankedQueue). length v) c.deref-2.ensures.value)
    (subst (λ (v : List RankedQueue). FedAgree coming v rows) c.deref-2.ensures.value each.fed)
    (subst (λ (v : List RankedQueue). All (IsClassFed coming v) classes) c.deref-3.ensures.value some.fed)
