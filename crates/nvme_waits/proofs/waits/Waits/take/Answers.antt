use Rattle.std.proofs.Common.{◌≡◌, ◌∙◌, ◌<◌, List, Some, length, position, ap, subst, sym, ◌∷◌}
use Rattle.std.specs.List.Sorted.{IsPermutation}
use Rattle.std.proofs.lemmas.List.Sorted.{IsPermutation-swap_remove}
use Rattle.nvme_waits.specs.declared.waits.Taken.{Taken}
use Rattle.nvme_waits.specs.Waits.{is_of}
use Rattle.nvme_waits.proofs.Taken.{found_at, none_at}
use Rattle.nvme_waits.proofs.waits.Waits.take.Goals as goal

pub returns-in-Some-clause-value : goal.returns-in-Some-clause-value
returns-in-Some-clause-value c =
    let items = c.args.self.now.taken.items in
    let same : c.deref.result.now ≡ items = c.deref.ensures.value in
    let at : position (is_of c.args.command.now) items ≡ Some c.in-Some.place =
    ap (λ (v : List Taken). position (is_of c.args.command.now) v) (sym same) ∙ sym c.in-Some.ensures.value in
    let within : c.in-Some.place < length items = rw same at c.in-Some.ensures.within in
    found_at (is_of c.args.command.now) items c.in-Some.place c.swap_remove.result at within c.swap_remove.ensures.value

pub returns-in-Some-clause-gone : goal.returns-in-Some-clause-gone
returns-in-Some-clause-gone c =
    let items = c.args.self.now.taken.items in
    let taken = c.swap_remove.result in
    let within : c.in-Some.place < length items = rw c.deref.ensures.value at c.in-Some.ensures.within in
    subst (λ (v : List Taken). IsPermutation items (taken ∷ v)) (sym c.swap_remove.ensures.items)
    (IsPermutation-swap_remove items c.in-Some.place taken within c.swap_remove.ensures.value)

pub returns-in-None-clause-value : goal.returns-in-None-clause-value
returns-in-None-clause-value c =
    let items = c.args.self.now.taken.items in
    none_at (is_of c.args.command.now) items (ap (λ (v : List Taken). position (is_of c.args.command.now) v) (sym c.deref.ensures.value) ∙ sym c.in-None.ensures.value)
