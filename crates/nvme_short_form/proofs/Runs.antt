-- The items of a run, and copies of items.
use Rattle.std.proofs.Common.{◌≡◌, ℕ, zero, suc, ◌+◌, List, [], ◌∷◌, ◌++◌, length, map, append_assoc, append-nil, ◌∙◌, refl, sym, ap, arith}
use Rattle.std.specs.List.{range_with_len}
use Rattle.std.proofs.lemmas.List.FromFn.{map-range_with_len_more}
use Rattle.nvme_short_form.specs.declared.command.Item.{Item}
use Rattle.nvme_short_form.specs.declared.command.Run.{Run}
use Rattle.nvme_short_form.specs.Commands.{item_at}
use Rattle.nvme_short_form.specs.Scripts.{copies}

-- one item more
pub run_more : (run : Run) (n : ℕ) (before script after : List Item) → script ≡ before ++ map (item_at run) (range_with_len 0 n) → after ≡ script ++ item_at run n ∷ [] → after ≡ before ++ map (item_at run) (range_with_len 0 (n + 1))
run_more run n before script after so pushed =
    rw (pushed, so) (append_assoc before (map (item_at run) (range_with_len 0 n)) (item_at run n ∷ [])) ∙ ap (λ ys. before ++ ys) (sym (map-range_with_len_more (item_at run) 0 n n (omega arith)))

-- one copy more
pub copies_more : (n : ℕ) (items before script after : List Item) → script ≡ before ++ copies n items → after ≡ script ++ items → after ≡ before ++ copies (n + 1) items
copies_more n items before script after so pushed =
    let more : n + 1 ≡ suc n = omega arith in
    rw (pushed, so, more) (append_assoc before (copies n items) items)

copies_nil : (n : ℕ) → copies n [] ≡ []
copies_nil zero = refl
copies_nil (suc n) = rw (copies_nil n)

-- no items, however often
pub copies_of_none : (n : ℕ) (items before : List Item) → length items ≡ 0 → before ≡ before ++ copies n items
copies_of_none n [] before none = rw (copies_nil n) (sym (append-nil before))
copies_of_none n (x ∷ xs) before none = absurd (omega (arith, none))
